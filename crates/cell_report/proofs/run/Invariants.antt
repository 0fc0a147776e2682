-- `cell_report::run` meets its contract: every read starts as a run has it, and the reads that are left bound the cell's number.
use Rattle.std.proofs.Common.{◌≡◌, ℕ, ◌+◌, ◌*◌, ◌≤◌, ◌<◌, List, length, take}
use lib.Ieee.{Float}
use Rattle.records.specs.declared.tally.Tally.{Tally}
use Rattle.records.specs.Tally.{Fits}
use Rattle.report.specs.Report.{held_of}
use Rattle.report.specs.Split.{Running}
use Rattle.cell_report.proofs.run.Given as goal

-- between two reads
pub record Between (block₀ : List ℕ) (coords₀ : List Float) (corners₀ ends₀ : List ℕ) (queries₀ : List Float) (out₀ : List ℕ)
    (block : List ℕ) (coords : List Float) (corners ends : List ℕ) (queries : List Float) (out : List ℕ)
    (t : Tally) (have reads : ℕ) : Type 0 where
  pub for_block : length block ≡ length block₀
  pub for_coords : length coords ≡ length coords₀
  pub for_corners : length corners ≡ length corners₀
  pub for_ends : length ends ≡ length ends₀
  pub for_queries : length queries ≡ length queries₀
  pub for_out : length out ≡ length out₀
  pub fits : Fits t
  pub number : t.number + 2048 * reads ≤ 2305843009213693953
  pub small : have < 32
  pub running : Running (held_of t coords corners ends queries) (take have block)

abbrev pub invariant-loop-more : goal.invariant-loop-more
invariant-loop-more g l =
    Between l.initial.block l.initial.coords l.initial.corners l.initial.ends l.initial.queries l.initial.out
    l.block l.coords l.corners l.ends l.queries l.out l.t l.have l.reads

abbrev pub decreases-loop-more : goal.decreases-loop-more
decreases-loop-more g l = l.reads
