-- Request i: a route's number is followed by two bases (answers/proofs/Gaps.antt), so routes are three numbers apart, and there are 256 numbers. The k-th
-- route that a lookup reads has a number of at least 3k - 2, and k is at most 85.
use mathlib.Core.Path.{refl}
use mathlib.Core.Logic.{◌≢◌}
use Prim.Native.Nat.{ℕ, suc, ◌+◌, ◌/◌}
use native.Mathlib.Omega.{arith}
use Rattle.definitions.specs.Nodes.{Nodes}
use Rattle.definitions.specs.Bench.{Store, sight_of}
use Rattle.definitions.specs.Threads.{Turn, Moves, Finishes, Finds, Full, NoStore}
use Rattle.definitions.specs.Places.{place_of}
use Rattle.definitions.specs.Steps.{step}
use Rattle.answers.proofs.Gaps.{Fits}
use Rattle.answers.proofs.StepEffects.{Each}
use Rattle.polls.specs.Lookups.{LookupsEnd}
use Rattle.polls.proofs.Rulers.{Ruler}
use Rattle.polls.proofs.Walks.{within}

-- the third that a number lies in
abbrev third : Nodes → ℕ → ℕ
third n x = (x + 2) / 3

apart : (s : Store) → Fits s → Ruler 85 third s
apart s f = record {
  first = λ x l e. omega (arith, (f.gap x l e).some);
  more = λ r x l h i e. let o = f.gap r (omega arith) i in
      let a : x ≢ suc r = (λ z. o.next (rw z at e)) in let b : x ≢ suc (suc r) = (λ z. o.last (rw z at e)) in omega (arith, a, b);
  most = λ x l e. omega (arith, (f.gap x l e).room, f.numbers);
}

-- nothing else is needed of the store
nothing : (o : Turn) → Each (λ _. Unit {0}) o
nothing (Moves th e) = tt
nothing (Finishes e a) = tt
nothing (Finds c) = tt
nothing Full = tt
nothing NoStore = tt

pub lookups_end : LookupsEnd
lookups_end = within 85 third (λ n n' x h. refl) (λ _. Unit {0})
    (λ b P t k f a. nothing (step (place_of (b.threads t).place) (sight_of b.store) (b.threads t))) (λ b P k f a. apart b.store f) (λ _. tt)
