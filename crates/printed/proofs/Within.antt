-- A page that starts in its buffer ends in it. Assumes nothing.
use mathlib.Core.Path.{◌≡◌, refl, sym, subst}
use mathlib.Core.Bool.{Bool, true, false}
use mathlib.Core.List.{List, [], ◌∷◌}
use Prim.Native.Nat.{ℕ, ◌+◌, ◌≤◌, ◌<◌}
use native.Mathlib.Omega.{arith}
use borrow.Author.Tests.{ltb-true}
use lib.Dec.{ltb}
use lib.ListN.{length, set, length-set}
use Rattle.container.specs.Choice.{ite}
use Rattle.buffer.specs.Page.{Page, page, put, put_all}

put_within : (p : Page) (x : ℕ) → p.at ≤ length p.bytes → (put p x).at ≤ length (put p x).bytes
unfolding put ite
put_within p x h = either (ltb p.at (length p.bytes)) (ltb-true p.at (length p.bytes))
  where
    either : (t : Bool) → (t ≡ true → p.at < length p.bytes) → (ite t (page (set p.bytes p.at x) (p.at + 1)) p).at ≤ length (ite t (page (set p.bytes p.at x) (p.at + 1)) p).bytes
    either true k = let room : p.at < length p.bytes = k refl in rw length-set (omega arith)
    either false k = h

put_all_within : (p : Page) (xs : List ℕ) → p.at ≤ length p.bytes → (put_all p xs).at ≤ length (put_all p xs).bytes
unfolding put_all
put_all_within p [] h = h
put_all_within p (x ∷ xs) h = put_all_within (put p x) xs (put_within p x h)

pub ends_within : (l m xs : List ℕ) (n : ℕ) → page l n ≡ put_all (page m 0) xs → n ≤ length l
ends_within l m xs n e = subst (λ (p : Page). p.at ≤ length p.bytes) (sym e) (put_all_within (page m 0) xs (omega arith))
