-- The stored rule: the stored count is "shown equal to the number of ones in the set at every moment" (02, c).
-- It stands beside demand 3 (Claim.antt), with the same moments. The proof is in crate answers.
use Rattle.std.specs.Prelude.{ℕ, ◌≡◌, Bool, List, [], ◌∷◌}
use Rattle.container.specs.Container.{size}
use Rattle.definitions.specs.Bench.{Bench, fresh}
use Rattle.definitions.specs.Records.{Result, refused, carried, record_step}
use Rattle.definitions.specs.Tree.{tree_set, stored}
use Rattle.definitions.specs.Schedule.{Rec}
use Rattle.definitions.specs.Run.{run_report}

-- "the number of ones in the set"
abbrev pub Counted : Bench → Type 0
Counted b = stored b ≡ size (tree_set b)

-- "at every moment": at the start, and after each record carried out or refused; after a refused one the bench is the one before it
abbrev pub CountedOnward : Result → Bench → (Bench → Type 0) → Type 0
CountedOnward (refused _) b C = Counted b
CountedOnward (carried b' _) b C = C b'

abbrev pub CountedFrom : List Rec → Bench → Type 0
CountedFrom [] b = Counted b
CountedFrom (r ∷ rs) b = Counted b × CountedOnward (record_step b r.last r.first r.second r.extra) b (λ b'. CountedFrom rs b')

-- every list of records from a fresh bench, with the stop off or on, and what Run hands back for every file, refused ones too; n is the row
-- buffer's length
abbrev pub StoredRule : Type 0
StoredRule = ((on : Bool) (rs : List Rec) → CountedFrom rs (fresh on)) × ((file : List ℕ) (n : ℕ) → (run_report file n).stored ≡ size (run_report file n).set)
