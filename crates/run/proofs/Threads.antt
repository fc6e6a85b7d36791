-- The thread table as the loop holds it: notes in one array, numbers of frames in another, and the frames that lie apart in the lent arrays, which
-- keep their sizes. Assumes nothing.
use mathlib.Core.Path.{◌≡◌, refl, ap, ◌∙◌, fun_ext}
use mathlib.Core.Bool.{Bool, true, false, cond}
use mathlib.Core.Logic.{inl, inr}
use mathlib.Core.List.{List, [], ◌∷◌}
use Prim.Native.Nat.{ℕ, zero, suc, ◌≤◌, ◌<◌}
use native.Mathlib.Omega.{arith}
use borrow.Author.Tests.{eqb-true, eqb-false}
use lib.Dec.{eqb}
use lib.ListN.{length, get_or, set, replicate}
use lib.Seq.{get_or-set_same, get_or-set_other}
use Rattle.container.specs.Choice.{upd}
use Rattle.answers.specs.Reachable.{Unasked}
use Rattle.frames.specs.View.{frames_of}
use Rattle.definitions.specs.Threads.{Frame, Thread, idle}
use Rattle.steps.specs.declared.Notes.{Notes}
use Rattle.steps.specs.Decision.{thread}
use Rattle.run.specs.Threads.{none, threads_of}
use Rattle.run.specs.Standing.{Sizes, Spare}
use Rattle.frames.specs.declared.frame.Frame.{Frame as Kept}
use Rattle.std.specs.Prelude.{Option}

abbrev pub notes_of : Thread → Notes
notes_of th = record {
  action = th.action;
  station = th.station;
  extra = th.extra;
  place = th.place;
  route = th.route;
  read = th.read;
  base = th.base;
  parent = th.parent;
  left = th.left;
  found = th.found;
  neighbour = th.neighbour;
  main = th.main;
  owner = th.owner;
  grandparent = th.grandparent;
  other = th.other;
}

-- what the code reads within an array, whatever it would read past its end
pub within : {A : Type 0} (l : List A) (t : ℕ) (d d' : A) → t < length l → get_or l t d ≡ get_or l t d'
within [] t d d' h = absurd (omega arith)
within (x ∷ l) zero d d' h = refl
within (x ∷ l) (suc t) d d' h = within l t d d' (omega arith)

pub at_own : (l : List Notes) (c : List ℕ) (h : ℕ → Frame) (t : ℕ) (d : Notes) → length l ≡ 4 → t < 4 → threads_of l c h t ≡ thread (get_or l t d) (frames_of h t (get_or c t 0))
at_own l c h t d j i = ap (λ (v : Notes). thread v (frames_of h t (get_or c t 0))) (within l t none d (omega arith))

-- ---- thread t has the notes v now; the frames of the others, four at most, stay
module _ (l : List Notes) (c : List ℕ) (h h' : ℕ → Frame) (t : ℕ) (v : Notes) (i : t < length l) (few : (u : ℕ) → get_or c u 0 ≤ 4)
    (q : (u k : ℕ) → k ≤ 4 → (u ≡ t → ⊥) → frames_of h' u k ≡ frames_of h u k) where
  -- and n frames
  pub put : (n : ℕ) → t < length c → threads_of (set l t v) (set c t n) h' ≡ upd (threads_of l c h) t (thread v (frames_of h' t n))
  put n j = fun_ext (λ k. at k (eqb k t) refl)
    where
      at : (k : ℕ) (b : Bool) → eqb k t ≡ b → threads_of (set l t v) (set c t n) h' k ≡ cond b (thread v (frames_of h' t n)) (threads_of l c h k)
      at k true e = rw (eqb-true k t e, get_or-set_same l t v none i, get_or-set_same c t n 0 j)
      at k false e = rw (get_or-set_other l t k v none (eqb-false k t e), get_or-set_other c t k n 0 (eqb-false k t e), q k (get_or c k 0) (few k) (eqb-false k t e))

  -- and as many frames as before
  pub put_notes_lem : threads_of (set l t v) c h' ≡ upd (threads_of l c h) t (thread v (frames_of h' t (get_or c t 0)))
  put_notes_lem = fun_ext (λ k. at k (eqb k t) refl)
    where
      at : (k : ℕ) (b : Bool) → eqb k t ≡ b → threads_of (set l t v) c h' k ≡ cond b (thread v (frames_of h' t (get_or c t 0))) (threads_of l c h k)
      at k true e = rw (eqb-true k t e, get_or-set_same l t v none i)
      at k false e = rw (get_or-set_other l t k v none (eqb-false k t e), q k (get_or c k 0) (few k) (eqb-false k t e))

-- ---- all idle
idles : (k t : ℕ) (v : Notes) → v ≡ none → get_or (replicate k v) t none ≡ none
idles zero t v e = refl
idles (suc k) zero v e = e
idles (suc k) (suc t) v e = idles k t v e

zeros : (k t : ℕ) → get_or {A = ℕ} (replicate k 0) t 0 ≡ 0
zeros zero t = refl
zeros (suc k) zero = refl
zeros (suc k) (suc t) = zeros k t

pub all_idle : (h : ℕ → Frame) (v : Notes) → thread v [] ≡ idle → threads_of (replicate 4 v) (replicate 4 0) h ≡ (λ _. idle)
all_idle h v g = fun_ext (λ t. rw (idles 4 t v (ap notes_of g), zeros 4 t))

-- ---- frames
pub frames_count : (h : ℕ → Frame) (t d : ℕ) → length (frames_of h t d) ≡ d
frames_count h t zero = refl
frames_count h t (suc d) = ap suc (frames_count h t d)

-- all that is lent keeps its size: depths l, results r, frames f
pub record Keeps (l : List ℕ) (r : List (Option ℕ)) (f : List Kept) (l' : List ℕ) (r' : List (Option ℕ)) (f' : List Kept) : Type 0 where
  pub depths : length l' ≡ length l
  pub results : length r' ≡ length r
  pub frames : length f' ≡ length f

pub all_kept : {l : List ℕ} {r : List (Option ℕ)} {f : List Kept} → Keeps l r f l r f
all_kept = record { depths = refl; results = refl; frames = refl }

module _ {l l' : List ℕ} {r r' : List (Option ℕ)} {f f' : List Kept} (q : Keeps l r f l' r' f') where
  pub kept_sizes : (file : List ℕ) → Spare file r f → (Unasked file → ⊥) → Sizes 256 16 r' f'
  kept_sizes file (inl o) v = absurd (v o)
  kept_sizes file (inr z) v = record { results = q.results ∙ z.results; frames = q.frames ∙ z.frames }

  pub kept_deep : {l'' : List ℕ} → length l'' ≡ length l' → Keeps l r f l'' r' f'
  kept_deep e = record { depths = e ∙ q.depths; results = q.results; frames = q.frames }

  -- something of each is put
  pub kept_on : {l'' : List ℕ} {r'' : List (Option ℕ)} {f'' : List Kept} → Keeps l' r' f' l'' r'' f'' → Keeps l r f l'' r'' f''
  kept_on p = record { depths = p.depths ∙ q.depths; results = p.results ∙ q.results; frames = p.frames ∙ q.frames }
