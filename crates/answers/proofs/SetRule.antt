-- Demand 3 over the plain set, as 01 has it (definitions/specs/SetClaim.antt). It follows from the answers rule over depths
-- (AnswersRule.antt): the plain set is the plain table with its depths forgotten, at every moment.
use Rattle.std.specs.Prelude.{Option, None}
use mathlib.Core.Path.{◌≡◌, refl, sym, ◌∙◌, ap, subst}
use mathlib.Core.Bool.{Bool, true, false, not, cond}
use mathlib.Core.List.{List, [], ◌∷◌}
use Prim.Native.Nat.{ℕ, zero, suc, ◌/◌, ◌%◌}
use lib.Dec.{eqb}
use Rattle.container.specs.Depths.{Found, is_in}
use Rattle.container.proofs.DepthLaws.{is_in_lem}
use Rattle.definitions.specs.declared.Answer.{Answer}
use Rattle.definitions.specs.declared.Action.{Action}
use Rattle.definitions.specs.declared.Action.TheVariants.{Lookup, Insert, Remove, Split, Join, Query}
use Rattle.definitions.specs.Bench.{Bench, fresh}
use Rattle.definitions.specs.Records.{Row, no_row, row, Result, refused, carried, record_step}
use Rattle.definitions.specs.Answers.{said}
use Rattle.definitions.specs.Tree.{tree_held}
use Rattle.definitions.specs.Schedule.{Rec, stop_of, records_of, count_of}
use Rattle.definitions.specs.Plain as table
use Rattle.definitions.specs.Plain.{no_operation, doing, was_carried}
use Rattle.definitions.specs.PlainSet as set
use Rattle.definitions.specs.Claim as deep
use Rattle.definitions.specs.Claim.{row_added, first_steps, moment}
use Rattle.definitions.specs.SetClaim as plain
use Rattle.definitions.specs.SetClaim.{SetRule}
use Rattle.answers.proofs.AnswersRule.{answers_rule}

-- ---- the plain table without its depths

abbrev without : table.Operation → set.Operation
without no_operation = set.no_operation
without (doing a s d) = set.doing a s

record Same (P : table.Plain) (Q : set.Plain) : Type 0 where
  stations : (s : ℕ) → is_in (P.table s) ≡ Q.set s
  operations : (t : ℕ) → without (P.operation t) ≡ Q.operation t

in_cond : (c : Bool) (x y : Found) (u v : Bool) → is_in x ≡ u → is_in y ≡ v → is_in (cond c x y) ≡ cond c u v
in_cond true x y u v p q = p
in_cond false x y u v p q = q

without_cond : (c : Bool) (x y : table.Operation) (u v : set.Operation) → without x ≡ u → without y ≡ v → without (cond c x y) ≡ cond c u v
without_cond true x y u v p q = p
without_cond false x y u v p q = q

settled_same : (o : table.Operation) (T : ℕ → Found) (S : ℕ → Bool) → ((s : ℕ) → is_in (T s) ≡ S s) → (s : ℕ) → is_in (table.settled_by o T s) ≡ set.settled_by (without o) S s
settled_same no_operation T S h s = h s
settled_same (doing Lookup st d) T S h s = h s
settled_same (doing Insert st d) T S h s = in_cond (eqb s st) _ _ true (S s) refl (h s)
settled_same (doing Remove st d) T S h s = in_cond (eqb s st) _ _ false (S s) refl (h s)
settled_same (doing Split st d) T S h s = h s
settled_same (doing Join st d) T S h s = h s
settled_same (doing Query st d) T S h s = h s

module _ (P : table.Plain) (Q : set.Plain) (same : Same P Q) where
  finish_same : (t : ℕ) → Same (table.finish t P) (set.finish t Q)
  finish_same t = record {
    stations = λ s. settled_same (P.operation t) P.table Q.set same.stations s ∙ ap (λ o. set.settled_by o Q.set s) (same.operations t);
    operations = λ v. without_cond (eqb v t) no_operation (P.operation v) set.no_operation (Q.operation v) refl (same.operations v);
  }

  start_same : (t : ℕ) (a : Action) (y d : ℕ) → Same (table.start t a y d P) (set.start t a y Q)
  start_same t a y d = record {
    stations = same.stations;
    operations = λ v. without_cond (eqb v t) (doing a y d) (P.operation v) (set.doing a y) (Q.operation v) refl (same.operations v);
  }

  carried_same : (n t y d : ℕ) (w : Bool) → Same (table.carried_out n t y d w P) (set.carried_out n t y w Q)
  carried_same zero t y d true = finish_same t
  carried_same zero t y d false = same
  carried_same (suc zero) t y d w = start_same t Lookup y d
  carried_same (suc (suc zero)) t y d w = start_same t Insert y d
  carried_same (suc (suc (suc zero))) t y d w = start_same t Remove y d
  carried_same (suc (suc (suc (suc zero)))) t y d w = start_same t Split y d
  carried_same (suc (suc (suc (suc (suc zero))))) t y d w = start_same t Join y d
  carried_same (suc (suc (suc (suc (suc (suc zero)))))) t y d w = start_same t Query y d
  carried_same (suc (suc (suc (suc (suc (suc (suc _))))))) t y d w = same

  feed_same : (r : Rec) (w : Bool) → Same (table.feed r (was_carried w) P) (set.feed r (was_carried w) Q)
  feed_same r w = carried_same (r.first % 16) (r.first / 16) r.second r.extra w

-- at every moment
at_same : (rs : List Rec) (k : ℕ) (b : Bench) (P : table.Plain) (Q : set.Plain) → Same P Q → Same (deep.plain_at rs k b P) (plain.plain_at rs k b Q)
at_same [] k b P Q same = same
at_same (r ∷ rs) zero b P Q same = same
at_same (r ∷ rs) (suc k) b P Q same = go (record_step b r.last r.first r.second r.extra) (λ b' P' Q' z. at_same rs k b' P' Q' z)
  where
    go : (o : Result) → ((b' : Bench) (P' : table.Plain) (Q' : set.Plain) → Same P' Q' → Same (deep.plain_at rs k b' P') (plain.plain_at rs k b' Q'))
        → Same (deep.plain_by o r P (λ b' P'. deep.plain_at rs k b' P')) (plain.plain_by o r Q (λ b' Q'. plain.plain_at rs k b' Q'))
    go (refused n) ih = same
    go (carried b' w) ih = ih b' _ _ (feed_same P Q same r (row_added w))

empty_same : Same table.empty set.empty
empty_same = record { stations = λ s. refl; operations = λ t. refl }

moments_same : (on : Bool) (rs : List Rec) (k s : ℕ) → is_in (deep.moments on rs k s) ≡ plain.moments on rs k s
moments_same on rs k s = (at_same rs k (fresh on) table.empty set.empty empty_same).stations s

-- ---- the claim

module _ (H : deep.Moments) (G : plain.Moments) (same_at : (k s : ℕ) → is_in (H k s) ≡ G k s) where
  fits_same : (P : table.Plain) (Q : set.Plain) (o : table.Operation) (place f k : ℕ) (a : Answer) (d c : ℕ) → Same P Q → deep.Fits o place P H f k a d c → plain.Fits (without o) place Q G f k a
  fits_same P Q no_operation place f k a d c same h = h
  fits_same P Q (doing Lookup st _) place f k a d c same (j, lo, hi, e, _) = (j, lo, hi, e ∙ ap said (same_at j st))
  fits_same P Q (doing Insert st _) place f k a d c same (e, own) = (e ∙ ap (λ v. said (not v)) (same.stations st), own)
  fits_same P Q (doing Remove st _) place f k a d c same (e, own) = (e ∙ ap said (same.stations st), own)
  fits_same P Q (doing Split st _) place f k a d c same h = tt
  fits_same P Q (doing Join st _) place f k a d c same h = tt
  fits_same P Q (doing Query st _) place f k a d c same h = tt

  answered_same : (P : table.Plain) (Q : set.Plain) (w : Row) (t place f k : ℕ) → Same P Q → deep.Answered w (P.operation t) place P H f k → plain.Answered w (Q.operation t) place Q G f k
  answered_same P Q no_row t place f k same h = tt
  answered_same P Q (row a d c) t place f k same h = subst (λ o. plain.Fits o place Q G f k a) (same.operations t) (fits_same P Q (P.operation t) place f k a d c same h)

  set_same : (b : Bench) (P : table.Plain) (Q : set.Plain) → Same P Q → deep.SameTable b P → plain.SameSet b Q
  set_same b P Q same h s l = sym (is_in_lem (tree_held b) s) ∙ ap is_in (h s l) ∙ same.stations s

  from_same : (rs : List Rec) (b : Bench) (P : table.Plain) (Q : set.Plain) (f : ℕ → Option ℕ) (k : ℕ) → Same P Q → deep.From rs b P H f k → plain.From rs b Q G f k
  from_same [] b P Q f k same h = set_same b P Q same h
  from_same (r ∷ rs) b P Q f k same (h, onward) =
      (set_same b P Q same h, go (record_step b r.last r.first r.second r.extra) onward (λ b' P' Q' z. from_same rs b' P' Q' (first k) (suc k) z))
    where
      first : ℕ → ℕ → Option ℕ
      first j = first_steps (r.first % 16) (r.first / 16) j f

      go : (o : Result) → deep.Onward o b r P H (first k) k (λ b' P'. deep.From rs b' P' H (first k) (suc k))
          → ((b' : Bench) (P' : table.Plain) (Q' : set.Plain) → Same P' Q' → deep.From rs b' P' H (first k) (suc k) → plain.From rs b' Q' G (first k) (suc k))
          → plain.Onward o b r Q G (first k) k (λ b' Q'. plain.From rs b' Q' G (first k) (suc k))
      go (refused n) z ih = set_same b P Q same z
      go (carried b' w) (a, z) ih = (answered_same P Q w (r.first / 16) _ _ k same a, ih b' _ _ (feed_same P Q same r (row_added w)) z)

pub set_rule : SetRule
set_rule = (
  λ on rs. from_same (deep.moments on rs) (plain.moments on rs) (moments_same on rs) rs (fresh on) table.empty set.empty (λ _. None) 0 empty_same (answers_rule.0 on rs),
  λ file n e s h. answers_rule.1 file n e s h ∙ moments_same (stop_of file) (records_of file (count_of file)) (count_of file) s,
)
