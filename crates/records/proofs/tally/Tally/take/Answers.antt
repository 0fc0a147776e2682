-- `records::tally::Tally::take` meets its contract: a refused cell stays as it is, and else the method of the record's kind stores in its
-- own list and the others stay.
use mathlib.Core.Path.{◌≡◌, sym, ap, ◌∙◌}
use mathlib.Core.Bool.{false}
use Rattle.std.specs.Prelude.{Some}
use Rattle.std.specs.Option.{is_some}
use Rattle.records.specs.declared.bytes.Kind.TheVariants.{Vertex, Corner, FaceEnd, CellEnd, Query}
use Rattle.records.proofs.ByKind.{skipped, by_vertex, by_corner, by_face_end, by_cell_end, by_query, by_other}
use Rattle.records.proofs.tally.Tally.take.Goals as goal

pub returns-then-is_some : goal.returns-then-is_some
returns-then-is_some c = skipped (sym c.is_some.ensures ∙ c.if-is_some.true)

pub returns-in-Some-Vertex : goal.returns-in-Some-Vertex
returns-in-Some-Vertex c =
    let going : is_some c.args.self.refusal ≡ false = sym c.is_some.ensures ∙ c.if-is_some.false in
    let kind : c.args.r.kind ≡ Some Vertex =
    c.in-Some-Vertex.is ∙ ap (λ k. Some k) (rw c.in-Some-Vertex.is at c.in-Some-Vertex.field-0-is) in
    by_vertex going kind c.vertex.ensures.value c.vertex.ensures.coords_value

pub returns-in-Some-Corner : goal.returns-in-Some-Corner
returns-in-Some-Corner c =
    let going : is_some c.args.self.refusal ≡ false = sym c.is_some.ensures ∙ c.if-is_some.false in
    let kind : c.args.r.kind ≡ Some Corner =
    c.in-Some-Corner.is ∙ ap (λ k. Some k) (rw c.in-Some-Corner.is at c.in-Some-Corner.field-0-is) in
    by_corner going kind c.corner.ensures.value c.corner.ensures.corners_value

pub returns-in-Some-FaceEnd : goal.returns-in-Some-FaceEnd
returns-in-Some-FaceEnd c =
    let going : is_some c.args.self.refusal ≡ false = sym c.is_some.ensures ∙ c.if-is_some.false in
    let kind : c.args.r.kind ≡ Some FaceEnd =
    c.in-Some-FaceEnd.is ∙ ap (λ k. Some k) (rw c.in-Some-FaceEnd.is at c.in-Some-FaceEnd.field-0-is) in
    by_face_end going kind c.face_end.ensures.value c.face_end.ensures.ends_value

pub returns-in-Some-CellEnd : goal.returns-in-Some-CellEnd
returns-in-Some-CellEnd c =
    let going : is_some c.args.self.refusal ≡ false = sym c.is_some.ensures ∙ c.if-is_some.false in
    let kind : c.args.r.kind ≡ Some CellEnd =
    c.in-Some-CellEnd.is ∙ ap (λ k. Some k) (rw c.in-Some-CellEnd.is at c.in-Some-CellEnd.field-0-is) in
    by_cell_end going kind c.cell_end.ensures

pub returns-in-Some-Query : goal.returns-in-Some-Query
returns-in-Some-Query c =
    let going : is_some c.args.self.refusal ≡ false = sym c.is_some.ensures ∙ c.if-is_some.false in
    let kind : c.args.r.kind ≡ Some Query =
    c.in-Some-Query.is ∙ ap (λ k. Some k) (rw c.in-Some-Query.is at c.in-Some-Query.field-0-is) in
    by_query going kind c.query.ensures.value c.query.ensures.queries_value

pub returns-in-None : goal.returns-in-None
returns-in-None c =
    let going : is_some c.args.self.refusal ≡ false = sym c.is_some.ensures ∙ c.if-is_some.false in
    by_other going c.in-None.is c.refused.ensures
