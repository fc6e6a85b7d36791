-- What the frames of a range query need of fixed memory, in every file's run: a stack never has more than 86 entries, 85 routes and a base; a
-- thread that comes to 15 at a range base that waits has room for one frame more; and an idle thread has none. (Numbers used and stores
-- shown: UsedRun.antt; at most four frames: Reach.antt.)
use Rattle.std.specs.Prelude.{None}
use mathlib.Core.Path.{◌≡◌, refl, ap, subst}
use mathlib.Core.Logic.{◌≢◌}
use mathlib.Core.List.{List, [], ◌∷◌}
use Prim.Native.Nat.{ℕ, zero, suc, ◌+◌, ◌-◌, ◌*◌, ◌<◌, ◌≤◌}
use native.Mathlib.Omega.{arith}
use lib.ListN.{length}
use Rattle.definitions.specs.declared.Kind.TheVariants.{Route, Range}
use Rattle.definitions.specs.declared.Quarter.{Quarter}
use Rattle.definitions.specs.declared.Quarter.TheVariants.{ReadLeft, SwapLeft, ReadRight, SwapRight}
use Rattle.definitions.specs.Schedule.{stop_of, records_of}
use Rattle.definitions.specs.Run.{after}
use Rattle.definitions.specs.Claim.{moments}
use Rattle.definitions.specs.Threads.{Frame, Thread}
use Rattle.definitions.specs.Frames.{top_of, tail_of}
use Rattle.definitions.specs.Places.{Place, nowhere, p61, p62, p70, p71, p72, p73, p74, p76, swap, opening, next, place_of}
use Rattle.answers.proofs.Memory.{World, Hist, Mem}
use Rattle.answers.proofs.FrameFacts.{Climb, TopOf, Top}
use Rattle.answers.proofs.Knows.{Know}
use Rattle.answers.proofs.Owners.{push_fits}
use Rattle.answers.proofs.ReadPlaces.{know_now}
use Rattle.answers.proofs.RunSet.{run_ends}
use Rattle.answers.proofs.Reach.{nodes}
use Rattle.answers.proofs.Gaps.{FitsIn}
use Rattle.answers.proofs.UsedRun.{reach_store}

-- ---- the places between 60 and 81, by what is known there of the stack

-- those at which a node is pushed
pub data Pushes : Place → Type 0 where
  on_61 : {p : Place} → p ≡ p61 → Pushes p
  on_71 : {p : Place} → p ≡ p71 → Pushes p
  on_73 : {p : Place} → p ≡ p73 → Pushes p

pub data Walks : Place → Type 0 where
  none : {p : Place} → p ≡ nowhere → Walks p
  down : {p : Place} → p ≡ p61 → Walks p
  first : {p : Place} → p ≡ p62 → Walks p
  opens : {p : Place} (q : Quarter) → p ≡ swap opening q → Walks p
  at_70 : {p : Place} → p ≡ p70 → Walks p
  at_71 : {p : Place} → p ≡ p71 → Walks p
  at_72 : {p : Place} → p ≡ p72 → Walks p
  at_73 : {p : Place} → p ≡ p73 → Walks p
  at_74 : {p : Place} → p ≡ p74 → Walks p
  at_76 : {p : Place} → p ≡ p76 → Walks p
  extends : {p : Place} (q : Quarter) → p ≡ swap next q → Walks p

walks_by : (k : ℕ) → k < 20 → Walks (place_of (61 + k))
walks_by zero h = down refl
walks_by (suc zero) h = first refl
walks_by (suc (suc zero)) h = none refl
walks_by (suc (suc (suc zero))) h = opens ReadLeft refl
walks_by (suc (suc (suc (suc zero)))) h = opens SwapLeft refl
walks_by (suc (suc (suc (suc (suc zero))))) h = opens ReadRight refl
walks_by (suc (suc (suc (suc (suc (suc zero)))))) h = opens SwapRight refl
walks_by (suc (suc (suc (suc (suc (suc (suc zero))))))) h = none refl
walks_by (suc (suc (suc (suc (suc (suc (suc (suc zero)))))))) h = none refl
walks_by (suc (suc (suc (suc (suc (suc (suc (suc (suc zero))))))))) h = at_70 refl
walks_by (suc (suc (suc (suc (suc (suc (suc (suc (suc (suc zero)))))))))) h = at_71 refl
walks_by (suc (suc (suc (suc (suc (suc (suc (suc (suc (suc (suc zero))))))))))) h = at_72 refl
walks_by (suc (suc (suc (suc (suc (suc (suc (suc (suc (suc (suc (suc zero)))))))))))) h = at_73 refl
walks_by (suc (suc (suc (suc (suc (suc (suc (suc (suc (suc (suc (suc (suc zero))))))))))))) h = at_74 refl
walks_by (suc (suc (suc (suc (suc (suc (suc (suc (suc (suc (suc (suc (suc (suc zero)))))))))))))) h = none refl
walks_by (suc (suc (suc (suc (suc (suc (suc (suc (suc (suc (suc (suc (suc (suc (suc zero))))))))))))))) h = at_76 refl
walks_by (suc (suc (suc (suc (suc (suc (suc (suc (suc (suc (suc (suc (suc (suc (suc (suc zero)))))))))))))))) h = extends ReadLeft refl
walks_by (suc (suc (suc (suc (suc (suc (suc (suc (suc (suc (suc (suc (suc (suc (suc (suc (suc zero))))))))))))))))) h = extends SwapLeft refl
walks_by (suc (suc (suc (suc (suc (suc (suc (suc (suc (suc (suc (suc (suc (suc (suc (suc (suc (suc zero)))))))))))))))))) h = extends ReadRight refl
walks_by (suc (suc (suc (suc (suc (suc (suc (suc (suc (suc (suc (suc (suc (suc (suc (suc (suc (suc (suc zero))))))))))))))))))) h = extends SwapRight refl
walks_by (suc (suc (suc (suc (suc (suc (suc (suc (suc (suc (suc (suc (suc (suc (suc (suc (suc (suc (suc (suc k)))))))))))))))))))) h = absurd (omega arith)

walks : (p : ℕ) → 60 < p → p < 81 → Walks (place_of p)
walks p a b = let n : 61 + (p - 61) ≡ p = omega arith in subst (λ v. Walks (place_of v)) n (walks_by (p - 61) (omega arith))

-- ---- the stack there

top_map : (fs : List Frame) (Q Q' : Frame → Type 0) → ((f : Frame) → Q f → Q' f) → TopOf fs Q → TopOf fs Q'
top_map [] Q Q' h k = tt
top_map (f ∷ fs) Q Q' h k = h f k

module _ (w : World) (hist : Hist) (m : Mem w hist) (g : FitsIn w.nodes w.used w.shown) where
  -- routes are three apart, and the first is not number 0
  climb_apart : (s : List ℕ) → Climb w s → 3 * length s ≤ top_of s + 2
  climb_apart [] c = omega arith
  climb_apart (x ∷ []) (r, _, _, _) = let o = (g.gap x (m.shape.low x r.1) r.0).some in omega arith
  climb_apart (x ∷ y ∷ s) (r, _, o, c) =
      let l = climb_apart (y ∷ s) c in let z = g.gap y (m.shape.low y c.0.1) c.0.0 in
      let one : x ≢ suc y = (λ e. z.next (subst (λ u. (w.nodes u).kind ≡ Route) e r.0)) in
      let two : x ≢ suc (suc y) = (λ e. z.last (subst (λ u. (w.nodes u).kind ≡ Route) e r.0)) in
      omega (arith, l, o, one, two)

  -- a stack of routes
  climb_short : (s : List ℕ) → Climb w s → length s ≤ 85
  climb_short [] c = omega arith
  climb_short (x ∷ s) c = let l = climb_apart (x ∷ s) c in let o = (g.gap x (m.shape.low x c.0.1) c.0.0).room in omega (arith, l, o, g.numbers)

  -- one with a base on top
  tail_short : (s : List ℕ) → Climb w (tail_of s) → length s ≤ 86
  tail_short [] c = omega arith
  tail_short (x ∷ s) c = omega (arith, climb_short s c)

  climb_less : (s : List ℕ) → Climb w s → length s ≤ 86
  climb_less s c = omega (arith, climb_short s c)

  abbrev Short : Thread → Type 0
  Short th = Top th (λ f. length f.stack ≤ 86)

  walk_short : (p : Place) → Walks p → (T : ℕ) (th : Thread) → 0 < th.place → Know p w T th → Short th
  walk_short p (none e) T th h k = absurd (let z = (subst (λ v. Know v w T th) e k).0 in omega arith)
  walk_short p (down e) T th h k = top_map th.frames _ _ (λ f d. climb_less f.stack d.climb) (subst (λ v. Know v w T th) e k).0
  walk_short p (first e) T th h k = top_map th.frames _ _ (λ f d. tail_short f.stack d.climb) (subst (λ v. Know v w T th) e k).0
  walk_short p (opens q e) T th h k = top_map th.frames _ _ (λ f d. tail_short f.stack d.0.climb) (subst (λ v. Know v w T th) e k).0
  walk_short p (at_70 e) T th h k = top_map th.frames _ _ (λ f d. climb_less f.stack d.0.climb) (subst (λ v. Know v w T th) e k).0
  walk_short p (at_71 e) T th h k = top_map th.frames _ _ (λ f d. climb_less f.stack d.0.climb) (subst (λ v. Know v w T th) e k).0
  walk_short p (at_72 e) T th h k = top_map th.frames _ _ (λ f d. climb_less f.stack d.0.climb) (subst (λ v. Know v w T th) e k).0
  walk_short p (at_73 e) T th h k = top_map th.frames _ _ (λ f d. climb_less f.stack d.0.climb) (subst (λ v. Know v w T th) e k).0
  walk_short p (at_74 e) T th h k = top_map th.frames _ _ (λ f d. tail_short f.stack d.climb) (subst (λ v. Know v w T th) e k).0
  walk_short p (at_76 e) T th h k = top_map th.frames _ _ (λ f d. tail_short f.stack d.0.climb) (subst (λ v. Know v w T th) e k).0
  walk_short p (extends q e) T th h k = top_map th.frames _ _ (λ f d. tail_short f.stack d.0.climb) (subst (λ v. Know v w T th) e k).0

  -- 61, 71 and 73 push
  push_short : (p : Place) → Pushes p → (T : ℕ) (th : Thread) → Know p w T th → Top th (λ f. length f.stack ≤ 85)
  push_short p (on_61 e) T th k = top_map th.frames _ _ (λ f d. climb_short f.stack d.climb) (subst (λ v. Know v w T th) e k).0
  push_short p (on_71 e) T th k = top_map th.frames _ _ (λ f d. climb_short f.stack d.0.climb) (subst (λ v. Know v w T th) e k).0
  push_short p (on_73 e) T th k = top_map th.frames _ _ (λ f d. climb_short f.stack d.0.climb) (subst (λ v. Know v w T th) e k).0

-- ---- every run

-- between 60 and 81 the stack on top has at most 86 entries; 60 empties it, 81 and 82 do not look at it
pub reach_entries : (file : List ℕ) (k t : ℕ) → 60 < ((after file k).bench.threads t).place → ((after file k).bench.threads t).place < 81
    → Top ((after file k).bench.threads t) (λ f. length f.stack ≤ 86)
reach_entries file k t a b = let o = run_ends file k in let h = o.inv.held (nodes file k) (λ _ _. refl) in
    walk_short _ (moments (stop_of file) (records_of file k)) h.mem (reach_store file k) _ (walks ((after file k).bench.threads t).place a b) _
    ((after file k).bench.threads t) (omega arith) (h.knows t)

-- where a node is pushed there is room for it
pub reach_push : (file : List ℕ) (k t : ℕ) → Pushes (place_of ((after file k).bench.threads t).place) → Top ((after file k).bench.threads t) (λ f. length f.stack ≤ 85)
reach_push file k t e = let o = run_ends file k in let h = o.inv.held (nodes file k) (λ _ _. refl) in
    push_short _ (moments (stop_of file) (records_of file k)) h.mem (reach_store file k) _ e _ ((after file k).bench.threads t) (h.knows t)

pub reach_enter : (file : List ℕ) (k t : ℕ) → t < 4 → ((after file k).bench.threads t).place ≡ 15
    → (nodes file k ((after file k).bench.threads t).base).kind ≡ Range → (after file k).bench.store.stores (nodes file k ((after file k).bench.threads t).base).store ≡ None
    → length ((after file k).bench.threads t).frames ≤ 3
reach_enter file k t l e = let o = run_ends file k in push_fits o.inv o.counts.owned t l (ap place_of e)

pub reach_bare : (file : List ℕ) (k t : ℕ) → ((after file k).bench.threads t).place ≡ 0 → ((after file k).bench.threads t).frames ≡ []
reach_bare file k t e = (know_now (run_ends file k).inv t nowhere (ap place_of e)).1
