-- Lists of jobs on different stations, run one after another, end the same in any order: what the tree holds in the end and each job's answer
-- are told from what it held at first (`all_run`), and that does not change when two neighbours are swapped. It rests on Alone.antt.
use mathlib.Core.Path.{◌≡◌, refl, sym, ◌∙◌, ap, subst}
use mathlib.Core.Logic.{◌≢◌}
use mathlib.Core.Bool.{Bool, true, false, cond}
use mathlib.Core.List.{List, [], ◌∷◌}
use Prim.Native.Nat.{ℕ, zero, suc, ◌+◌, ◌<◌, ◌≤◌}
use lib.Dec.{eqb}
use lib.ListN.{length}
use native.Mathlib.Omega.{arith}
use native.Mathlib.Decide.{dec_lt}
use borrow.Author.Tests.{eq-eqb, ne_eqb}
use Rattle.container.specs.Choice.{ite}
use Rattle.container.specs.Container.{all, has, below, from}
use Rattle.container.specs.Depths.{Found, absent, deep, is_in, find, merge, within}
use Rattle.container.proofs.Laws.{below_in, below_out, from_in, from_out, has_lt, ext_all}
use Rattle.container.proofs.DepthLaws.{find_merge, find_within, is_in_lem}
use Rattle.definitions.specs.declared.Action.{Action}
use Rattle.definitions.specs.declared.Action.TheVariants.{Lookup, Insert, Remove, Split, Join, Query}
use Rattle.definitions.specs.declared.Answer.{Answer}
use Rattle.definitions.specs.declared.Answer.TheVariants.{No}
use Rattle.definitions.specs.Answers.{said}
use Rattle.definitions.specs.Nodes.{Nodes, is_route}
use Rattle.definitions.specs.Bench.{Bench}
use Rattle.definitions.specs.Tree.{held_below, tree_held, tree_set}
use Rattle.definitions.specs.Plain.{settled}
use Rattle.answers.proofs.Tools.{◌==?◌, on, off, test}
use Rattle.laws.specs.Jobs.{Reachable, AllIdle, Job, Proper, Alone, answer_to, Runs, Avoids, Apart, Reordered, same, swapped, behind, twice}
use Rattle.laws.specs.Laws.{EitherOrder, AnyOrder}
use Rattle.laws.proofs.Solo.{updating}
use Rattle.laws.proofs.Alone.{settled_at, updates_end}

-- ---- one job and the plain table

abbrev done : Job → (ℕ → Found) → ℕ → Found
done j T = settled j.action j.station j.depth T

-- what it leaves at its own station
abbrev puts : Action → ℕ → Found
puts Lookup d = absent
puts Insert d = deep d
puts Remove d = absent
puts Split d = absent
puts Join d = absent
puts Query d = absent

done_is : (j : Job) (T : ℕ → Found) (s : ℕ) → Proper j → done j T s ≡ cond (eqb s j.station) (puts j.action j.depth) (T s)
done_is j T s p = updating (λ a. settled a j.station j.depth T s ≡ cond (eqb s j.station) (puts a j.depth) (T s)) refl refl j.action p.action

done_on : (j : Job) (T : ℕ → Found) (s : ℕ) → Proper j → s ≡ j.station → done j T s ≡ puts j.action j.depth
done_on j T s p h = done_is j T s p ∙ rw (eq-eqb s j.station h)

done_off : (j : Job) (T : ℕ → Found) (s : ℕ) → Proper j → s ≢ j.station → done j T s ≡ T s
done_off j T s p h = done_is j T s p ∙ rw (ne_eqb s j.station h)

done_at : (j : Job) (s : ℕ) (T T' : ℕ → Found) → T s ≡ T' s → done j T s ≡ done j T' s
done_at j s T T' e = settled_at j.action j.station j.depth s T T' e

-- two on different stations, in either order
done_swap : (i j : Job) (T : ℕ → Found) (s : ℕ) → Proper i → Proper j → j.station ≢ i.station → done j (done i T) s ≡ done i (done j T) s
done_swap i j T s p q h = elim (s ==? i.station) [
  | yes e ↦ done_off j (done i T) s q (λ z. h (sym z ∙ e)) ∙ done_on i T s p e ∙ sym (done_on i (done j T) s p e)
  | no e ↦ done_at j s (done i T) T (done_off i T s p e) ∙ sym (done_off i (done j T) s p e)
]

-- ---- a list of jobs and the plain table

all_done_lem : List Job → (ℕ → Found) → ℕ → Found
all_done_lem [] T = T
all_done_lem (j ∷ js) T = all_done_lem js (done j T)

all_at : (js : List Job) (s : ℕ) (T T' : ℕ → Found) → T s ≡ T' s → all_done_lem js T s ≡ all_done_lem js T' s
unfolding all_done_lem
all_at [] s T T' e = e
all_at (j ∷ js) s T T' e = all_at js s (done j T) (done j T') (done_at j s T T' e)

-- each job's answer is the one that it would have as the first
abbrev Fits : List Job → (ℕ → Found) → (ℕ → Answer) → Type 0
Fits [] T says = Unit {0}
Fits (j ∷ js) T says = (says j.station ≡ said (answer_to j.action (is_in (T j.station)))) × Fits js T says

-- the answers that fit
answers : List Job → (ℕ → Found) → ℕ → Answer
answers [] T s = No
answers (j ∷ js) T s = cond (eqb s j.station) (said (answer_to j.action (is_in (T s)))) (answers js T s)

-- where no job is on station st, table and answers may differ there
fits_off : (js : List Job) (st : ℕ) (T T' : ℕ → Found) (f g : ℕ → Answer) → Avoids st js → Apart js
    → ((s : ℕ) → s < 64 → s ≢ st → T' s ≡ T s) → ((s : ℕ) → s ≢ st → g s ≡ f s) → Fits js T f → Fits js T' g
fits_off [] st T T' f g a p e i h = tt
fits_off (j ∷ js) st T T' f g (d, a) (p, _, q) e i (o, h) =
    (i j.station d ∙ o ∙ ap (λ v. said (answer_to j.action (is_in v))) (sym (e j.station p.station d)), fits_off js st T T' f g a q e i h)

answers_fit : (js : List Job) (T : ℕ → Found) → Apart js → Fits js T (answers js T)
unfolding answers
answers_fit [] T p = tt
answers_fit (j ∷ js) T (p, a, q) =
    (rw (eq-eqb j.station j.station refl), fits_off js j.station T T (answers js T) _ a q (λ s _ _. refl) (λ s d. rw (ne_eqb s j.station d)) (answers_fit js T q))

-- ---- any order

avoids_too : {js ks : List Job} (s : ℕ) → Reordered js ks → Avoids s js → Avoids s ks
avoids_too s same h = h
avoids_too s swapped (a, (b, h)) = (b, (a, h))
avoids_too s (behind r) (a, h) = (a, avoids_too s r h)
avoids_too s (twice r r') h = avoids_too s r' (avoids_too s r h)

apart_too : {js ks : List Job} → Reordered js ks → Apart js → Apart ks
apart_too same h = h
apart_too swapped (p, (d, a), (q, b, h)) = (q, (λ z. d (sym z), b), (p, a, h))
apart_too (behind r) (p, a, h) = (p, avoids_too _ r a, apart_too r h)
apart_too (twice r r') h = apart_too r' (apart_too r h)

fits_too : {js ks : List Job} (T : ℕ → Found) (says : ℕ → Answer) → Reordered js ks → Fits js T says → Fits ks T says
fits_too T says same h = h
fits_too T says swapped (a, (b, h)) = (b, (a, h))
fits_too T says (behind r) (a, h) = (a, fits_too T says r h)
fits_too T says (twice r r') h = fits_too T says r' (fits_too T says r h)

as_many : {js ks : List Job} → Reordered js ks → length ks ≡ length js
as_many same = refl
as_many swapped = refl
as_many (behind r) = ap suc (as_many r)
as_many (twice r r') = as_many r' ∙ as_many r

same_table : {js ks : List Job} (T : ℕ → Found) (s : ℕ) → Reordered js ks → Apart js → all_done_lem js T s ≡ all_done_lem ks T s
unfolding all_done_lem
same_table T s same h = refl
same_table T s (swapped {i} {j} {js}) (p, (d, a), (q, b, h)) = all_at js s _ _ (done_swap i j T s p q d)
same_table T s (behind r) (p, a, h) = same_table _ s r h
same_table T s (twice r r') h = same_table T s r h ∙ same_table T s r' (apart_too r h)

-- ---- a list of jobs on the bench

record Ran (js : List Job) (b : Bench) (says : ℕ → Answer) : Type 0 where
  after : Bench
  runs : Runs js b says after
  table : (s : ℕ) → s < 64 → find (tree_held after) s ≡ all_done_lem js (find (tree_held b)) s
  used : after.store.used ≡ b.store.used + length js

all_run : (js : List Job) (b : Bench) (says : ℕ → Answer) → Reachable b → AllIdle b → Apart js → b.store.used + length js ≤ 256 → Fits js (find (tree_held b)) says → Ran js b says
unfolding all_done_lem
all_run [] b says z h a f w = record { after = b; runs = refl; table = λ s _. refl; used = omega arith }
all_run (j ∷ js) b says z h (p, a, q) f (e, w) =
    let o = updates_end b j z h p (omega arith) in
    let i = all_run js o.after says o.reached o.idle q (omega (arith, o.used))
    (fits_off js j.station (find (tree_held b)) _ says says a q (λ s l d. o.table s l ∙ done_off j (find (tree_held b)) s p d) (λ s _. refl) w) in
    record {
      after = i.after;
      runs = (o.steps, o.after, subst (λ v. Alone j o.steps b v o.after) (o.says ∙ sym e) o.alone, i.runs);
      table = λ s l. i.table s l ∙ all_at js s _ _ (o.table s l);
      used = omega (arith, o.used, i.used);
    }

-- ---- the tree's set is a set of stations 0 to 63

below_none : (k c s : ℕ) → has c s ≡ false → has (below k c) s ≡ false
below_none k c s e = elim (dec_lt s k) [ yes h ↦ below_in k c s h ∙ e | no h ↦ below_out k c s (omega arith) ]

from_none : (k c s : ℕ) → has c s ≡ false → has (from k c) s ≡ false
from_none k c s e = elim (dec_lt s k) [ yes h ↦ from_out k c s h | no h ↦ from_in k c s (omega arith) ∙ e ]

held_none : (k : ℕ) (n : Nodes) (x range s : ℕ) → has range s ≡ false → find (held_below k n x range) s ≡ absent
unfolding held_below ite
held_none zero n x range s e = find_within range (n x).container s ∙ rw e
held_none (suc k) n x range s e =
    go (is_route (n x).kind) (held_none k n (n x).left (below (n x).key range) s (below_none (n x).key range s e))
    (held_none k n (n x).right (from (n x).key range) s (from_none (n x).key range s e))
  where
    go : (c : Bool) → find (held_below k n (n x).left (below (n x).key range)) s ≡ absent → find (held_below k n (n x).right (from (n x).key range)) s ≡ absent
        → find (ite c (merge (held_below k n (n x).left (below (n x).key range)) (held_below k n (n x).right (from (n x).key range))) (within range (n x).container)) s ≡ absent
    go true a b = find_merge _ _ s ∙ rw (a, b)
    go false a b = find_within range (n x).container s ∙ rw e

tree_high : (b : Bench) (s : ℕ) → 64 ≤ s → find (tree_held b) s ≡ absent
unfolding tree_held
tree_high b s h = held_none 63 b.store.nodes b.store.root all s (elim (test (has all s)) [ on e ↦ absurd (omega (arith, has_lt all s (omega arith) e)) | off e ↦ e ])

same_set : (b b' : Bench) → ((s : ℕ) → s < 64 → find (tree_held b) s ≡ find (tree_held b') s) → tree_set b ≡ tree_set b'
same_set b b' h = ext_all _ _ (λ s. sym (is_in_lem (tree_held b) s) ∙ ap is_in (every s) ∙ is_in_lem (tree_held b') s)
  where
    every : (s : ℕ) → find (tree_held b) s ≡ find (tree_held b') s
    every s = elim (dec_lt s 64) [ yes l ↦ h s l | no l ↦ tree_high b s (omega arith) ∙ sym (tree_high b' s (omega arith)) ]

-- ---- the laws

pub any_order : AnyOrder
any_order b js ks z h a r f =
    let T = find (tree_held b) in let w = answers_fit js T a in
    let o = all_run js b (answers js T) z h a f w in
    let i = all_run ks b (answers js T) z h (apart_too r a) (omega (arith, as_many r)) (fits_too T _ r w) in
    let e : (s : ℕ) → s < 64 → find (tree_held o.after) s ≡ find (tree_held i.after) s = λ s l. o.table s l ∙ same_table T s r a ∙ sym (i.table s l) in
    record {
      says = answers js T;
      one = o.after;
      other = i.after;
      runs = o.runs;
      runs_other = i.runs;
      set = same_set _ _ e;
      depths = e;
      used = o.used ∙ ap (λ v. b.store.used + v) (sym (as_many r)) ∙ sym i.used;
    }

-- two jobs
pub either_order : EitherOrder
either_order b i j z h p q d f = any_order b (i ∷ j ∷ []) (j ∷ i ∷ []) z h (p, (λ e. d (sym e), tt), (q, tt, tt)) swapped f
