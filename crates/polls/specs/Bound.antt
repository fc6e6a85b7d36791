-- Beyond request i (Lookups.antt): the bound that is true of lists of records, and the reason for it.
use Rattle.std.specs.Prelude.{ℕ, zero, suc, ◌+◌, ◌≤◌, Bool, cond, List}
use Rattle.definitions.specs.Nodes.{is_route}
use Rattle.definitions.specs.Bench.{Bench, fresh}
use Rattle.definitions.specs.Schedule.{Rec}
use Rattle.laws.specs.Jobs.{Reachable}
use Rattle.polls.specs.Lookups.{none, Within, LookupsWithin}

-- how many numbers below n have the property p
unfoldable pub count : ℕ → (ℕ → Bool) → ℕ
count zero p = 0
count (suc n) p = cond (p n) 1 0 + count n p

-- a run makes at most 63 routes, those that are cut from the tree included: numbers are not used again, and a node keeps its kind
abbrev pub FewRoutes : Type 0
FewRoutes = (b : Bench) → Reachable b → count b.store.used (λ x. is_route (b.store.nodes x).kind) ≤ 63

-- so a lookup has its row by its 64th own step, and by its 66th in version 3
abbrev pub sharper : Bool → ℕ
sharper on = cond on 66 64

abbrev pub LookupsEndSooner : Type 0
LookupsEndSooner = LookupsWithin sharper

-- and no smaller number will do for every list of records
abbrev pub NoneSooner : Type 0
NoneSooner = (on : Bool) (n : ℕ) → ((rs : List Rec) → Within n rs (fresh on) (λ _. none)) → sharper on ≤ n
