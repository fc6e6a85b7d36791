-- The stored rule (definitions/specs/Stored.antt), over every list of records and every file. It rests on definitions/proofs/Counted.antt,
-- which shows it of every bench, and on nothing of the invariant.
use mathlib.Core.Path.{◌≡◌, sym}
use mathlib.Core.List.{List, [], ◌∷◌}
use Prim.Native.Nat.{ℕ}
use lib.Dec.{eqb}
use Rattle.container.specs.Choice.{ite}
use Rattle.container.specs.Container.{size}
use Rattle.container.proofs.Laws.{has_none, size_zero}
use Rattle.definitions.specs.Bench.{Bench, fresh}
use Rattle.definitions.specs.Records.{Result, refused, carried, record_step}
use Rattle.definitions.specs.Schedule.{Rec}
use Rattle.definitions.specs.Run.{run_report, run_refusal}
use Rattle.definitions.specs.Stored.{CountedOnward, CountedFrom, StoredRule}
use Rattle.definitions.proofs.Counted.{counted}
use Rattle.answers.proofs.Tools.{on, off, test}

along : (rs : List Rec) (b : Bench) → CountedFrom rs b
along [] b = counted b
along (r ∷ rs) b = (counted b, go (record_step b r.last r.first r.second r.extra) (λ b'. along rs b'))
  where
    go : (res : Result) → ((b' : Bench) → CountedFrom rs b') → CountedOnward res b (λ b'. CountedFrom rs b')
    go (refused _) ih = counted b
    go (carried b' _) ih = ih b'

reported : (file : List ℕ) (n : ℕ) → (run_report file n).stored ≡ size (run_report file n).set
unfolding run_report ite
reported file n = elim (test (eqb (run_refusal file n) 0)) [ on e ↦ rw e (counted _) | off e ↦ rw e (sym (size_zero 0 (λ s _. has_none s))) ]

pub stored_rule : StoredRule
stored_rule = ((λ on' rs. along rs (fresh on')), reported)
