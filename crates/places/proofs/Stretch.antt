-- A loop that writes one stretch of a list after the other, as `outward::into_ccw` does: what stands before the stretch stays as it has
-- become, what stands after it as it was at first.
use mathlib.Core.Path.{◌≡◌, ◌∙◌}
use mathlib.Core.List.{List, ◌++◌, append_assoc}
use Prim.Native.Nat.{ℕ, ◌+◌, ◌-◌, ◌≤◌}
use native.Mathlib.Omega.{arith}
use lib.ListN.{length, take, drop, length-append, length-take, length-drop}
use lib.Seq.{length-take-le, take_at, drop-drop}
use borrow.Rule.Slice.PartMut.{put_mid, same_len_mid, drop_put}

-- `part` stands from p up to e: c is the list before, c₀ the first one, c' the list now
pub record Laid {A : Type 0} (p e : ℕ) (c₀ c part c' : List A) : Type 0 where
  pub long : length c' ≡ length c
  pub front : take e c' ≡ take p c ++ part
  pub ahead : drop e c' ≡ drop e c₀

pub lay : {A : Type 0} (p e : ℕ) (c₀ c part : List A) → p ≤ e → e ≤ length c → length part ≡ e - p → drop p c ≡ drop p c₀
    → Laid p e c₀ c part (put_mid p (e - p) c part)
lay p e c₀ c part h g l ahead =
    let n : length (take p c ++ part) ≡ e = rw (length-append, l, length-take-le p c (omega arith)) (omega arith) in
    let m : length part ≡ length (take (e - p) (drop p c)) = simp (length-take, length-drop) (omega arith) in
    let w : p + (e - p) ≡ e = omega arith in
    let a : drop e c ≡ drop e c₀ = rw (← w, ← drop-drop (e - p) p c, ← drop-drop (e - p) p c₀, ahead) in
    record {
      long = same_len_mid p (e - p) c part m;
      front = rw (← append_assoc (take p c) part (drop (e - p) (drop p c))) (take_at (take p c ++ part) (drop (e - p) (drop p c)) e n);
      ahead = drop_put p e c part h g l ∙ a;
    }
