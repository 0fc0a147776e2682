-- The largest sizes that pass: by the table of SCOPE 3, of `point_in_phed` (SCOPE 3), and of the cell report (SCOPE 15).
use Rattle.std.specs.Prelude.{ℕ}

-- vertices of a cell, or points of a list of points of space
abbrev pub most_vertices : ℕ
most_vertices = 256

-- their coordinates: three a vertex
abbrev pub most_coordinates : ℕ
most_coordinates = 768

-- faces of a cell
abbrev pub most_faces : ℕ
most_faces = 256

-- corners of a cell
abbrev pub most_corners : ℕ
most_corners = 2048

-- entries of the corner list of `point_in_phed`, corners and marks
abbrev pub most_marked_corners : ℕ
most_marked_corners = 2304

-- query points of a cell
abbrev pub most_queries : ℕ
most_queries = 256

-- planes that a face is clipped by
abbrev pub most_planes : ℕ
most_planes = 256

-- corners of a face whose triangles are checked
abbrev pub most_checked_corners : ℕ
most_checked_corners = 256

-- triangles that are checked
abbrev pub most_checked_triangles : ℕ
most_checked_triangles = 254

-- points of a list of points of the plane
abbrev pub most_plane_points : ℕ
most_plane_points = 512

-- numbers of a work list
abbrev pub most_work_numbers : ℕ
most_work_numbers = 3072
