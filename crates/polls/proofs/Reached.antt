-- No smaller number than 64, or 66 with the stop on, will do for every list of records: the lookup of Chain.antt has made one step less and has no row.
use Rattle.std.specs.Prelude.{Option, Some, None}
use mathlib.Core.Path.{◌≡◌, refl, sym, ◌∙◌, ap}
use mathlib.Core.Bool.{true, false, cond}
use mathlib.Core.List.{List, [], ◌∷◌}
use Prim.Native.Nat.{ℕ, zero, suc, ◌/◌, ◌%◌, ◌<◌}
use native.Mathlib.Omega.{arith}
use lib.Dec.{eqb}
use borrow.Author.Tests.{eqb-true}
use Rattle.definitions.specs.Bench.{Bench, fresh}
use Rattle.definitions.specs.Records.{Row, no_row, row, Result, refused, carried, record_step}
use Rattle.definitions.specs.Schedule.{Rec}
use Rattle.answers.proofs.Tools.{on, off, test, clash}
use Rattle.polls.specs.Lookups.{Poll, none, made, heard, counted, Onward, Within}
use Rattle.polls.specs.Bound.{NoneSooner}
use Rattle.polls.proofs.Chain.{moves, goes_on, waits, chain, open_off, open_on}

-- what the claim counts is what Chain.antt counts
abbrev link : Poll → Option ℕ
link none = None
link (made k) = Some k

link_made : (p : Poll) (k : ℕ) → link p ≡ Some k → p ≡ made k
link_made none k e = absurd (clash (cc))
link_made (made j) k e = let z : j ≡ k = cc in ap made z

link_heard : (n : ℕ) (w : Row) (p : Poll) → moves n w (link p) ≡ link (heard n w p)
link_heard zero w none = refl
link_heard zero no_row (made k) = refl
link_heard zero (row _ _ _) (made k) = refl
link_heard (suc zero) w p = refl
link_heard (suc (suc _)) w p = refl

-- thread t past one record, as Chain.antt counts
abbrev past : ℕ → Rec → Row → Option ℕ → Option ℕ
past t r w l = cond (eqb t (r.first / 16)) (moves (r.first % 16) w l) l

link_counted : (t : ℕ) (r : Rec) (w : Row) (c : ℕ → Poll) → past t r w (link (c t)) ≡ link (counted r w c t)
link_counted t r w c = elim (test (eqb t (r.first / 16))) [
  | on e ↦ rw e (link_heard (r.first % 16) w (c t) ∙ ap (λ u. link (heard (r.first % 16) w (c u))) (eqb-true t (r.first / 16) e))
  | off e ↦ rw e
]

fewer : (n t k : ℕ) (rs : List Rec) (b : Bench) (c : ℕ → Poll) → Within n rs b c → waits t rs b (link (c t)) ≡ Some k → k < n
fewer n t k [] b c h e = (h t k (link_made (c t) k e)).0
fewer n t k (r ∷ rs) b c h e = go (record_step b r.last r.first r.second r.extra) h.1 e
    (λ b' w h' e'. fewer n t k rs b' (counted r w c) h' (ap (waits t rs b') (sym (link_counted t r w c)) ∙ e'))
  where
    go : (res : Result) → Onward res (λ b' w. Within n rs b' (counted r w c)) → goes_on res (λ b' w. waits t rs b' (past t r w (link (c t)))) ≡ Some k
        → ((b' : Bench) (w : Row) → Within n rs b' (counted r w c) → waits t rs b' (past t r w (link (c t))) ≡ Some k → k < n) → k < n
    go (refused _) h' e' ih = absurd (clash (cc))
    go (carried b' w) h' e' ih = ih b' w h' e'

pub none_sooner : NoneSooner
none_sooner false n h = omega (arith, fewer n 1 63 (chain false 63) (fresh false) (λ _. none) (h (chain false 63)) open_off)
none_sooner true n h = omega (arith, fewer n 1 65 (chain true 65) (fresh true) (λ _. none) (h (chain true 65)) open_on)
