-- What a step at a place below 60 changes in the loop's tables besides its note: the routes read by its thread, and the count of the stop. Assumes
-- nothing.
use mathlib.Core.Path.{◌≡◌, refl, ap, subst}
use mathlib.Core.Bool.{Bool, true, false}
use mathlib.Core.List.{List}
use Prim.Native.Nat.{ℕ, ◌<◌}
use borrow.Author.Tests.{ne_eqb}
use lib.ListN.{length, get_or, set, length-set}
use lib.Seq.{set-set, get_or-set_same}
use Rattle.definitions.specs.Nodes.{Shapes, Stores}
use Rattle.definitions.specs.Bench.{stop, Sight, sight}
use Rattle.steps.specs.declared.Notes.{Notes}
use Rattle.steps.specs.declared.Decision.{Decision}
use Rattle.steps.specs.Decision.{Decides, read_at, finding}
use Rattle.run.specs.Threads.{recounted}
use Rattle.run.proofs.Decided.{reread, Decided, decided_find}

-- `threads'` has in its place t the notes of `threads` with r routes read
pub record Rereads (t r : ℕ) (end : Notes) (threads threads' : List Notes) : Type 0 where
  pub own : get_or threads' t end ≡ reread r (get_or threads t end)
  pub puts : (v : Notes) → set threads' t v ≡ set threads t v
  pub size : length threads' ≡ length threads

pub reread_none : (t : ℕ) (end : Notes) (threads : List Notes) → Rereads t (get_or threads t end).read end threads threads
reread_none t end threads = record { own = refl; puts = λ v. refl; size = refl }

pub reread_one : (t r : ℕ) (end : Notes) (threads : List Notes) → t < length threads → Rereads t r end threads (set threads t (reread r (get_or threads t end)))
reread_one t r end threads i = record { own = get_or-set_same threads t (reread r (get_or threads t end)) end i; puts = λ v. set-set threads t _ v; size = length-set threads t _ }

-- its place stays
pub place_on : (t : ℕ) (end : Notes) (threads : List Notes) {threads' : List Notes} (r : ℕ) → t < length threads → threads' ≡ set threads t (reread r (get_or threads t end))
    → (get_or threads' t end).place ≡ (get_or threads t end).place
place_on t end threads r i e = rw (e, get_or-set_same threads t (reread r (get_or threads t end)) end i) refl

-- the count after a step at the place p, where it is neither of two
pub count_other : (p c : ℕ) → (p ≡ 4 → ⊥) → (p ≡ 5 → ⊥) → c ≡ recounted p c
count_other p c g h = rw (ne_eqb p 4 g, ne_eqb p 5 h)

-- ---- the notes and the decision together

-- the step of the thread in place t of `threads` is what d decides, and its notes are then those in `threads'`
pub record Begun (s : Sight) (t : ℕ) (end : Notes) (threads threads' : List Notes) (d : Decision) : Type 0 where
  pub decided : Decided s (get_or threads t end) (get_or threads' t end).read d
  pub rereads : Rereads t (get_or threads' t end).read end threads threads'

pub begun_at : {s : Sight} (t : ℕ) (end : Notes) (threads : List Notes) {threads' : List Notes} {d : Decision}
    → Decided s (get_or threads t end) (get_or threads t end).read d → threads' ≡ threads → Begun s t end threads threads' d
begun_at t end threads q e = rw e (record { decided = q; rereads = reread_none t end threads })

-- 1, 2
module _ (n : Shapes) (root used : ℕ) (k : Stores) (shown : ℕ) (on : Bool) (c t : ℕ) (end : Notes) (threads : List Notes) {threads' : List Notes} {d : Decision}
    (g : 0 < (get_or threads t end).place) (h : (get_or threads t end).place < 3)
    (i : Decides (get_or threads' t end) d (finding (get_or threads' t end).place on n root)) where
  pub begun_off : on ≡ false → threads' ≡ threads → Begun (sight n root used k shown (stop on c)) t end threads threads' d
  begun_off o e =
      let th : Notes = get_or threads t end in
      let j : Decides th d (finding th.place on n root) = rw e at i in
      begun_at t end threads (decided_find n root used k shown on c th (rw o) g h j) e

  pub begun_on : {r : ℕ} → on ≡ true → t < length threads → r ≡ read_at (get_or threads t end).place (get_or threads t end).read → threads' ≡ set threads t (reread r (get_or threads t end))
      → Begun (sight n root used k shown (stop on c)) t end threads threads' d
  begun_on {r} o l f e =
      let th : Notes = get_or threads t end in
      let own : get_or threads' t end ≡ reread r th = rw e (get_or-set_same threads t (reread r th) end l) in
      let j : Decides (reread r th) d (finding th.place on n root) = subst (λ (v : Notes). Decides v d (finding v.place on n root)) own i in
      let same : (get_or threads' t end).read ≡ r = ap (λ (v : Notes). v.read) own in
      record {
        decided = rw same (decided_find n root used k shown on c th (rw (o, f)) g h j);
        rereads = rw (same, e) (reread_one t r end threads l);
      }
