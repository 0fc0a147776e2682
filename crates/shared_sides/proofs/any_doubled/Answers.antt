-- `shared_sides::any_doubled` meets its contract: the stamps that it lends are 256 zeros.
use Rattle.places.proofs.Stamps.{zeros}
use borrow.Author.Rules.{rules}
use Rattle.shared_sides.proofs.any_doubled.Goals as goal

pub doubled_faces-requires : goal.doubled_faces-requires
doubled_faces-requires c =
    record { each = c.requires; stamp_len = (search rules, zeros 256) }
