-- The plain set of 01's answers rule, without depths. It is fed the records and, for each, whether it was refused and whether it added a
-- row; nothing else.
use Rattle.std.specs.Prelude.{ℕ, zero, suc, ◌/◌, ◌%◌, Bool, true, false, cond, eqb}
use Rattle.container.specs.Choice.{upd}
use Rattle.definitions.specs.Schedule.{Rec}
use Rattle.definitions.specs.Plain.{Told, was_refused, was_carried}
use Rattle.definitions.specs.declared.Action.{Action}
use Rattle.definitions.specs.declared.Action.TheVariants.{Lookup, Insert, Remove, Split, Join, Query}

-- a thread's open operation with its station
pub data Operation : Type 0 where
  no_operation : Operation
  doing : Action → ℕ → Operation

-- "It holds which stations are in, at first none, and each thread's open operation with its station, at first none"
pub record Plain : Type 0 where
  pub set : ℕ → Bool
  pub operation : ℕ → Operation

abbrev pub empty : Plain
empty = record { set = λ _. false; operation = λ _. no_operation }

-- "An insert puts its station in, a remove takes it out, any other leaves the stations"
abbrev pub settled : Action → ℕ → (ℕ → Bool) → ℕ → Bool
settled Lookup st S s = S s
settled Insert st S s = cond (eqb s st) true (S s)
settled Remove st S s = cond (eqb s st) false (S s)
settled Split st S s = S s
settled Join st S s = S s
settled Query st S s = S s

abbrev pub settled_by : Operation → (ℕ → Bool) → ℕ → Bool
settled_by no_operation S = S
settled_by (doing a st) S = settled a st S

-- "Step that adds a row: the operation is closed"
abbrev pub finish : ℕ → Plain → Plain
finish t P = record { set = settled_by (P.operation t) P.set; operation = upd P.operation t no_operation }

-- "Accepted start: the operation is open; the stations stay"
abbrev pub start : ℕ → Action → ℕ → Plain → Plain
start t a s P = record { set = P.set; operation = upd P.operation t (doing a s) }

-- an accepted record by its action; for a step, whether it added a row
abbrev pub carried_out : ℕ → ℕ → ℕ → Bool → Plain → Plain
carried_out zero t y row_added P = cond row_added (finish t P) P
carried_out (suc zero) t y row_added P = start t Lookup y P
carried_out (suc (suc zero)) t y row_added P = start t Insert y P
carried_out (suc (suc (suc zero))) t y row_added P = start t Remove y P
carried_out (suc (suc (suc (suc zero)))) t y row_added P = start t Split y P
carried_out (suc (suc (suc (suc (suc zero))))) t y row_added P = start t Join y P
carried_out (suc (suc (suc (suc (suc (suc zero)))))) t y row_added P = start t Query y P
carried_out (suc (suc (suc (suc (suc (suc (suc _))))))) t y row_added P = P

-- "refused record: nothing changes"
abbrev pub feed : Rec → Told → Plain → Plain
feed r was_refused P = P
feed r (was_carried row_added) P = carried_out (r.first % 16) (r.first / 16) r.second row_added P
