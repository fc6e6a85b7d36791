-- The events of a file's records, one record after another. Assumes nothing.
use mathlib.Core.Path.{◌≡◌, refl, sym, ◌∙◌, ap}
use mathlib.Core.List.{List, [], ◌∷◌, ◌++◌, append_assoc}
use Prim.Native.Nat.{ℕ, suc, ◌/◌, ◌%◌}
use lib.Dec.{eqb}
use borrow.Author.Tests.{eq-eqb, ne_eqb}
use Rattle.container.specs.Choice.{ite}
use Rattle.definitions.specs.Bench.{fresh}
use Rattle.definitions.specs.Records.{Result, refused, carried, record_step}
use Rattle.definitions.specs.Schedule.{stop_of, Rec, record_at, records_of}
use Rattle.definitions.specs.Run.{Progress, begin, advance_by, advance, after}
use Rattle.definitions.specs.History.{Event}
use Rattle.definitions.specs.Written.{event_of, events_by, events_from}
use Rattle.passing.proofs.Did.{Did, did}
use Rattle.passing.proofs.RunRows.{walk, walk_is, advance_on, stuck}

-- the events that record r adds where a run stands at p
abbrev pub added : Progress → Rec → List Event
added p r = ite (eqb p.refusal 0) (events_by (record_step p.bench r.last r.first r.second r.extra) p.bench r (λ _. [])) []

pub added_none : (p : Progress) (r : Rec) → (p.refusal ≡ 0 → ⊥) → added p r ≡ []
unfolding ite
added_none p r h = rw (ne_eqb p.refusal 0 h)

pub added_by : (p : Progress) (r : Rec) {res : Result} → p.refusal ≡ 0 → record_step p.bench r.last r.first r.second r.extra ≡ res → added p r ≡ events_by res p.bench r (λ _. [])
unfolding ite
added_by p r e q = rw (eq-eqb p.refusal 0 e, q)

snoc : (file : List ℕ) (rs : List Rec) (r : Rec) (p : Progress) → p.refusal ≡ 0 → events_from (rs ++ r ∷ []) p.bench ≡ events_from rs p.bench ++ added (walk file rs p) r
unfolding walk
snoc file [] r p e = sym (added_by p r e refl)
snoc file (q ∷ rs) r p e = go (record_step p.bench q.last q.first q.second q.extra) (did p.bench q.last q.first q.second q.extra) (advance_on file p q e) (λ p'. snoc file rs r p')
  where
    go : (res : Result) → Did p.bench (q.first / 16) q.second (q.first % 16) res → advance file p q ≡ advance_by file p (q.first / 16) res
        → ((p' : Progress) → p'.refusal ≡ 0 → events_from (rs ++ r ∷ []) p'.bench ≡ events_from rs p'.bench ++ added (walk file rs p') r)
        → events_by res p.bench q (λ b'. events_from (rs ++ r ∷ []) b') ≡ events_by res p.bench q (λ b'. events_from rs b') ++ added (walk file rs (advance file p q)) r
    go (refused k) d a ih =
        sym (ap (λ x. added x r) (ap (walk file rs) a ∙ stuck file rs (advance_by file p (q.first / 16) (refused k)) d) ∙ added_none (advance_by file p (q.first / 16) (refused k)) r d)
    go (carried b' w) d a ih =
        ap (λ l. event_of (q.first % 16) p.bench q w ++ l) (ih (advance_by file p (q.first / 16) (carried b' w)) refl)
        ∙ sym (append_assoc (event_of (q.first % 16) p.bench q w) (events_from rs b') (added (walk file rs (advance_by file p (q.first / 16) (carried b' w))) r))
        ∙ ap (λ x. (event_of (q.first % 16) p.bench q w ++ events_from rs b') ++ added (walk file rs x) r) (sym a)

-- the events of the first k records
abbrev pub events_to : List ℕ → ℕ → List Event
events_to file k = events_from (records_of file k) (fresh (stop_of file))

pub events_none : (file : List ℕ) → events_to file 0 ≡ []
unfolding records_of
events_none file = refl

pub events_next : (file : List ℕ) (k : ℕ) → events_to file (suc k) ≡ events_to file k ++ added (after file k) (record_at file k)
unfolding records_of
events_next file k = snoc file (records_of file k) (record_at file k) (begin (stop_of file)) refl ∙ ap (λ p. events_to file k ++ added p (record_at file k)) (sym (walk_is file k))
