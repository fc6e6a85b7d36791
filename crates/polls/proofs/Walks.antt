-- A lookup reads routes whose marks rise, also where they are cut from the tree; with marks of 1 to `top` it has its row by its step top + 1,
-- with the stop on, where 4 and 5 are two steps more, by top + 3. Shown for any marks (`Ruler`), along every list of records and every file.
-- It rests on the invariant (laws/proofs/Kept.antt), on what a thread notes of the stop (answers/proofs/Counted.antt) and on StepEffects.antt.
use mathlib.Core.Path.{◌≡◌, refl, sym, ◌∙◌, subst}
use mathlib.Core.Logic.{◌≢◌}
use mathlib.Core.Bool.{Bool, true, false, not, true≢false}
use mathlib.Core.List.{List, [], ◌∷◌}
use Prim.Native.Nat.{ℕ, zero, suc, ◌+◌, ◌/◌, ◌%◌, ◌<◌, ◌≤◌}
use native.Mathlib.Omega.{arith}
use lib.Dec.{eqb, ltb}
use borrow.Author.Tests.{eq-eqb, ne_eqb, ltb-true, ltb-false, eqb-true, eqb-false}
use Rattle.container.specs.Choice.{ite, upd}
use Rattle.definitions.specs.declared.Kind.TheVariants.{Route}
use Rattle.definitions.specs.declared.Action.{Action}
use Rattle.definitions.specs.declared.Action.TheVariants.{Lookup, Insert, Remove, Split, Join}
use Rattle.definitions.specs.declared.Answer.{Answer}
use Rattle.definitions.specs.declared.Effect.{Effect}
use Rattle.definitions.specs.declared.Effect.TheVariants.{Quiet, Raise}
use Rattle.definitions.specs.Nodes.{Nodes, child_for}
use Rattle.definitions.specs.Bench.{Store, Bench, bench, fresh, sight_of}
use Rattle.definitions.specs.Threads.{Thread, begun, idle, Turn, Moves, Finishes, Finds, Full, NoStore}
use Rattle.definitions.specs.Places.{Place, p2, p4, place_of, reading}
use Rattle.definitions.specs.Effects.{perform}
use Rattle.definitions.specs.Answers.{said, shown, depth_in}
use Rattle.definitions.specs.Steps.{at_leaf, reached, onward, one_more, followed, released, step}
use Rattle.definitions.specs.Records.{Row, no_row, row, Result, refused, carried, taken, is_idle, stepped, started, asked, acted, record_step}
use Rattle.definitions.specs.Schedule.{Rec, record_at, stop_of}
use Rattle.definitions.specs.Run.{Progress, advance_by, advance, after}
use Rattle.definitions.specs.Plain.{Plain, empty}
use Rattle.definitions.specs.Claim.{moment}
use Rattle.answers.proofs.Tools.{◌==?◌, clash}
use Rattle.answers.proofs.Memory.{lives}
use Rattle.answers.proofs.Invariant.{seen}
use Rattle.answers.proofs.Knows.{Know}
use Rattle.answers.proofs.Shown.{kind_route}
use Rattle.answers.proofs.Gaps.{Fits}
use Rattle.answers.proofs.StepEffects.{Each, each}
use Rattle.answers.proofs.UsedRun.{Keeps, record_keeps}
use Rattle.answers.proofs.CountSteps.{few_read, many_read}
use Rattle.answers.proofs.Counted.{Tally, Next, next, begins as tally-begins}
use Rattle.answers.proofs.SameOperation.{Same, same_op}
use Rattle.laws.proofs.OneRecord.{step_of, by_record, step_record}
use Rattle.laws.proofs.Kept.{Kept, kept_held, kept_next, kept_fresh}
use Rattle.polls.proofs.SameKinds.{Alike, kinds}
use Rattle.polls.proofs.Rulers.{Ruler, Local, steps}
use Rattle.polls.specs.Lookups.{Poll, none, made, heard, counted, Accepted, Prompt, Onward, Within, told, polls_of, LookupsWithin}

-- `Also`: what else is known of the store at every moment, for the ruler
module _ (top : ℕ) (mark : Nodes → ℕ → ℕ) (local : Local mark) (Also : Store → Type 0)
    (also-step : (b : Bench) (P : Plain) (t : ℕ) → Kept b P → Fits b.store → Also b.store
    → Each (λ e. Also (perform e b.store)) (step (place_of (b.threads t).place) (sight_of b.store) (b.threads t)))
    (ruler : (b : Bench) (P : Plain) → Kept b P → Fits b.store → Also b.store → Ruler top mark b.store) where
  steps_top : (v : Bool) → top < steps top v
  steps_top true = omega arith
  steps_top false = omega arith

  -- ---- what stands at every moment

  pub record Ground (on : Bool) (b : Bench) : Type 0 where
    pub plain : Plain
    pub kept : Kept b plain
    pub fits : Fits b.store
    pub who : ℕ → Bool
    pub tally : Tally on b who
    pub also : Also b.store

  abbrev AlsoAfter : Result → Type 0
  AlsoAfter (refused _) = Unit {0}
  AlsoAfter (carried b w) = Also b.store

  also_taken : (b : Bench) (t : ℕ) (o : Turn) → Also b.store → Each (λ e. Also (perform e b.store)) o → AlsoAfter (taken b t o)
  unfolding taken
  also_taken b t (Moves th e) a h = h
  also_taken b t (Finishes e r) a h = h
  also_taken b t (Finds c) a h = a
  also_taken b t Full a h = tt
  also_taken b t NoStore a h = tt

  pub ground_next : (on : Bool) (b b' : Bench) (r : Rec) (w : Row) → Ground on b → step_of b r ≡ carried b' w → Ground on b'
  ground_next on b b' r w g e = record {
    plain = _;
    kept = (kept_next b b' g.plain r w g.kept e).0;
    fits = subst Keeps e (record_keeps b r.last r.first r.second r.extra g.fits);
    who = _;
    tally = subst (Next on b r g.who) e (next on b r g.who g.tally);
    also = subst AlsoAfter e (by_record b r AlsoAfter (λ _. tt) (λ _ _ _ _. g.also) (λ t _. also_taken b t _ g.also (also-step b g.plain t g.kept g.fits g.also)));
  }

  -- ---- a lookup that has made k steps: it has not begun, or reads a route whose mark is at least k. With the stop on it may stand at 4 before
  -- the node that it read, be counted and read a route whose mark is at least k - 1, or stand at 5

  data Going (on : Bool) (n : Nodes) (th : Thread) (k : ℕ) : Type 0 where
    begins : th.place ≡ 1 → k ≡ 0 → Going on n th k
    walks : th.place ≡ 2 → (on ≡ true → th.read < 8) → k ≤ mark n th.route → Going on n th k
    halts : th.place ≡ 4 → on ≡ true → k ≤ top + 1 → ((n th.route).kind ≡ Route → k ≤ mark n th.route) → Going on n th k
    passes : th.place ≡ 2 → on ≡ true → 7 < th.read → k ≤ suc (mark n th.route) → Going on n th k
    leaves : th.place ≡ 5 → on ≡ true → k ≤ top + 2 → Going on n th k

  record Open (on : Bool) (b : Bench) (t k : ℕ) : Type 0 where
    low : t < 4
    act : (b.threads t).action ≡ Lookup
    going : Going on b.store.nodes (b.threads t) k

  -- ---- one step of a lookup: it goes on, or it has its row

  abbrev Goes : Bool → Store → ℕ → Turn → Type 0
  Goes on s k (Moves th e) = Going on (perform e s).nodes th (suc k)
  Goes on s k (Finishes e a) = Unit {0}
  Goes on s k (Finds c) = Unit {0}
  Goes on s k Full = ⊥
  Goes on s k NoStore = ⊥

  module _ (on : Bool) (s : Store) (th : Thread) (k : ℕ) where
    either : (c : Bool) (o o' : Turn) → (c ≡ true → Goes on s k o) → (c ≡ false → Goes on s k o') → Goes on s k (ite c o o')
    unfolding ite
    either true o o' f h = f refl
    either false o o' f h = h refl

    at_end : (a : Action) (x : ℕ) → a ≡ Lookup → Goes on s k (at_leaf a (sight_of s).nodes th x)
    at_end a x i = rw i tt

    -- not counted
    arrives : (x : ℕ) → th.action ≡ Lookup → (on ≡ true → th.read < 8) → ((s.nodes x).kind ≡ Route → suc k ≤ mark s.nodes x) → Goes on s k (reached (sight_of s).nodes th x)
    unfolding reached
    arrives x e l h = either _ _ _ (λ i. walks refl l (h (kind_route _ i))) (λ _. at_end th.action x e)

    -- counted
    goes_on_lem : (e : Effect) (x : ℕ) → on ≡ true → 7 < th.read → ((s.nodes x).kind ≡ Route → k ≤ mark (perform e s).nodes x) → suc k ≤ top + 2
        → Goes on s k (onward e (sight_of s).nodes th x)
    unfolding onward
    goes_on_lem e x o r h l = either _ _ _ (λ i. passes refl o r (omega (arith, h (kind_route _ i)))) (λ _. leaves refl o l)

    lets_go : (a : Action) → a ≡ Lookup → Goes on s k (released a (sight_of s).nodes th)
    lets_go a i = rw i tt

  module _ (on : Bool) (b : Bench) (g : Ground on b) (t : ℕ) where
    abbrev rule : Ruler top mark b.store
    rule = ruler b g.plain g.kept g.fits g.also

    abbrev th : Thread
    th = b.threads t

    -- what the thread knows at a place
    abbrev Knows : Place → Type 0
    Knows p = Know p (seen b.store.nodes b.store (kept_held g.kept).ghost g.kept.now) (moment (g.kept.first t)) th

    knows : (n : ℕ) → th.place ≡ n → Knows (place_of n)
    knows n e = subst (λ p. Knows (place_of p)) e ((kept_held g.kept).knows t)

    root_low : b.store.root < b.store.used
    root_low = let m = (kept_held g.kept).mem in m.shape.low _ (lives m.shape.root_live)

    -- the node noted at 4 has its number
    halt_low : th.place ≡ 4 → th.route < b.store.used
    halt_low e = let k : Knows p4 = knows 4 e in (kept_held g.kept).mem.shape.low _ k.0.born

    module _ (here : th.place ≡ 2) where
      know : Knows p2
      know = knows 2 here

      route_low : th.route < b.store.used
      route_low = (kept_held g.kept).mem.shape.low _ know.0.born

      most_read : mark b.store.nodes th.route ≤ top
      most_read = rule.most th.route route_low know.0.kind

      abbrev child : ℕ
      child = child_for th.station ((sight_of b.store).nodes th.route)

      next_route : (x : ℕ) → x ≡ child → (b.store.nodes x).kind ≡ Route → mark b.store.nodes th.route < mark b.store.nodes x
      next_route x q e = let m = (kept_held g.kept).mem in let side = ltb th.station (b.store.nodes th.route).key in
          rule.more th.route x (rw q (m.routes.rise th.route side know.0.kind know.0.born (rw q at e)))
          (rw q (m.shape.low _ (m.routes.kids th.route side know.0.kind know.0.born))) know.0.kind e

      -- the thread after its read, and what it has noted of it with the stop on
      abbrev now : Thread
      now = reading b.store.stop.on (one_more th.read) th

      noted : b.store.stop.on ≡ true → now.read ≡ one_more th.read
      noted e = rw e

      -- place 2 with the switch v
      reads_on : (k : ℕ) → th.action ≡ Lookup → (on ≡ true → th.read < 8) → k ≤ mark b.store.nodes th.route → (v : Bool) → b.store.stop.on ≡ v
          → Goes on b.store k (followed v (sight_of b.store).nodes now child)
      unfolding followed
      reads_on k a r z false e = arrives on b.store now k child a (λ o. absurd (true≢false (sym o ∙ sym g.tally.switch ∙ e))) (λ q. omega (arith, next_route _ refl q))
      reads_on k a r z true e = either on b.store now k _ _ _
          (λ h. arrives on b.store now k child a (λ _. ltb-true now.read 8 h) (λ q. omega (arith, next_route _ refl q)))
          (λ h. either on b.store now k _ _ _
          (λ _. halts refl is_on (omega (arith, most_read, z)) (λ q. omega (arith, next_route _ refl q)))
          (λ h8. absurd (omega (arith, r is_on, many_read th.read (over now.read (noted e) (ltb-false now.read 8 h) (eqb-false now.read 8 h8))))))
        where
          is_on : on ≡ true
          is_on = sym g.tally.switch ∙ e

          over : (m : ℕ) → m ≡ one_more th.read → 8 ≤ m → m ≢ 8 → 8 < one_more th.read
          over m i l h = omega (arith, i, l, h)

      counted_on : (k : ℕ) → on ≡ true → 7 < th.read → k ≤ suc (mark b.store.nodes th.route) → (v : Bool) → b.store.stop.on ≡ v
          → Goes on b.store k (followed v (sight_of b.store).nodes now child)
      unfolding followed
      counted_on k o r z false e = absurd (true≢false (sym o ∙ sym g.tally.switch ∙ e))
      counted_on k o r z true e = either on b.store now k _ _ _ (λ h. absurd (many (omega (arith, ltb-true now.read 8 h, noted e))))
          (λ h. either on b.store now k _ _ _ (λ h8. absurd (many (omega (arith, eqb-true now.read 8 h8, noted e))))
          (λ _. goes_on_lem on b.store now k Quiet child o (omega (arith, ltb-false now.read 8 h)) (λ q. omega (arith, next_route _ refl q, z)) (omega (arith, most_read, z))))
        where
          many : one_more th.read ≤ 8 → ⊥
          many l = omega (arith, r, few_read th.read l)

    -- the step at a place number
    abbrev Stepping : ℕ → ℕ → Type 0
    Stepping k n = Goes on b.store k (step (place_of n) (sight_of b.store) th)

    walks_on : (k : ℕ) → th.action ≡ Lookup → Going on b.store.nodes th k → Stepping k th.place
    unfolding step
    walks_on k a (begins e z) = rw z (subst (Stepping 0) (sym e)
        (arrives on b.store (reading b.store.stop.on 0 th) 0 b.store.root a (λ o. rw (g.tally.switch ∙ o) (omega arith)) (rule.first _ root_low)))
    walks_on k a (walks e r z) = subst (Stepping k) (sym e) (reads_on e k a r z b.store.stop.on refl)
    walks_on k a (halts e o l h) = subst (Stepping k) (sym e) (goes_on_lem on b.store th k Raise th.route o ((g.tally.notes t).ready e) h (omega arith))
    walks_on k a (passes e o r z) = subst (Stepping k) (sym e) (counted_on e k o r z b.store.stop.on refl)
    walks_on k a (leaves e o l) = subst (Stepping k) (sym e) (lets_go on b.store th k th.action a)

    -- so it has made fewer steps than that
    few_steps : (k : ℕ) → Going on b.store.nodes th k → k < steps top on
    few_steps k (begins e z) = omega (arith, steps_top on)
    few_steps k (walks e r z) = omega (arith, steps_top on, most_read e)
    few_steps k (halts e o l h) = rw o (omega arith)
    few_steps k (passes e o r z) = rw o (omega (arith, most_read e))
    few_steps k (leaves e o l) = rw o (omega arith)

    busy : (k : ℕ) → Going on b.store.nodes th k → is_idle th ≡ false
    busy k (begins e z) = rw e
    busy k (walks e r z) = rw e
    busy k (halts e o l h) = rw e
    busy k (passes e o r z) = rw e
    busy k (leaves e o l) = rw e

    accepted : (k : ℕ) (o : Turn) → Goes on b.store k o → Accepted (taken b t o)
    unfolding taken
    accepted k (Moves th' e) w = tt
    accepted k (Finishes e a) w = tt
    accepted k (Finds c) w = tt
    accepted k Full w = w
    accepted k NoStore w = w

    -- another thread's effect leaves it
    same_mark : (n' : Nodes) (x : ℕ) → x < b.store.used → ((y : ℕ) → y < b.store.used → (n' y).kind ≡ (b.store.nodes y).kind) → mark n' x ≡ mark b.store.nodes x
    same_mark n' x l h = local b.store.nodes n' x (λ y i. h y (omega arith))

    stays : (k : ℕ) (e : Effect) → Alike b.store e → Going on b.store.nodes th k → Going on (perform e b.store).nodes th k
    stays k e a (begins p z) = begins p z
    stays k e a (walks p r z) = walks p r (rw (same_mark (perform e b.store).nodes th.route (route_low p) a) z)
    stays k e a (halts p o l h) = halts p o l (λ q. rw (same_mark (perform e b.store).nodes th.route (halt_low p) a) (h (sym (a _ (halt_low p)) ∙ q)))
    stays k e a (passes p o r z) = passes p o r (rw (same_mark (perform e b.store).nodes th.route (route_low p) a) z)
    stays k e a (leaves p o l) = leaves p o l

  -- ---- all open lookups, past one record

  abbrev Held : Bool → Bench → (ℕ → Poll) → Type 0
  Held on b c = (t k : ℕ) → c t ≡ made k → Open on b t k

  -- a record of thread u with action n
  abbrev HeldBy : Bool → ℕ → ℕ → (ℕ → Poll) → Result → Type 0
  HeldBy on n u c (refused _) = Unit {0}
  HeldBy on n u c (carried b w) = Held on b (upd c u (heard n w (c u)))

  module _ (on : Bool) (b : Bench) (g : Ground on b) (c : ℕ → Poll) (held : Held on b c) (u : ℕ) (low : u < 4) where
    -- the bench after an effect, with thread u replaced
    abbrev moved : Effect → Thread → Bench
    moved e th' = bench (perform e b.store) (upd b.threads u th')

    onto : (e : Effect) (th' : Thread) (v : Poll) → Alike b.store e → ((k : ℕ) → v ≡ made k → (th'.action ≡ Lookup) × Going on (perform e b.store).nodes th' k)
        → Held on (moved e th') (upd c u v)
    onto e th' v a f t k = elim (t ==? u) [
      | yes q ↦ rw (eq-eqb t u q) (λ i. let (x, y) = f k i in record { low = rw q low; act = rw (eq-eqb t u q) x; going = rw (eq-eqb t u q) y })
      | no q ↦ rw (ne_eqb t u q) (λ i. let o = held t k i in record { low = o.low; act = rw (ne_eqb t u q) o.act; going = rw (ne_eqb t u q) (stays on b g t k e a o.going) })
    ]

    -- the lookup of thread u goes on
    further : (s : Store) (th' : Thread) (p : Poll) → ((j : ℕ) → p ≡ made j → (th'.action ≡ Lookup) × Going on s.nodes th' (suc j))
        → (k : ℕ) → heard 0 no_row p ≡ made k → (th'.action ≡ Lookup) × Going on s.nodes th' k
    further s th' none f k e = absurd (clash (cc))
    further s th' (made j) f k e = let z : suc j ≡ k = cc in rw (← z) (f j refl)

    -- it has its row
    over : (a : Answer) (d x : ℕ) (p : Poll) (k : ℕ) → heard 0 (row a d x) p ≡ made k → ⊥
    over a d x none k e = clash (cc)
    over a d x (made j) k e = clash (cc)

    turn_held : (o : Turn) → Same (b.threads u) o → Each (Alike b.store) o → ((k : ℕ) → c u ≡ made k → Goes on b.store k o) → HeldBy on 0 u c (taken b u o)
    unfolding taken
    turn_held (Moves th' e) m a w = onto e th' _ a (further (perform e b.store) th' (c u) (λ j i. (m.0 ∙ (held u j i).act, w j i)))
    turn_held (Finishes e r) m a w = onto e idle _ a (λ k i. absurd (over (shown r) (depth_in r b.store.nodes (b.threads u).station) 0 (c u) k i))
    turn_held (Finds x) m a w = onto Quiet idle _ (λ _ _. refl) (λ k i. absurd (over (said (not (eqb x 0))) 0 x (c u) k i))
    turn_held Full m a w = tt
    turn_held NoStore m a w = tt

    step_held : HeldBy on 0 u c (taken b u (step (place_of (b.threads u).place) (sight_of b.store) (b.threads u)))
    step_held = turn_held _ (same_op (sight_of b.store) (b.threads u) (place_of (b.threads u).place))
        (each b.store (place_of (b.threads u).place) (b.threads u) _ (kinds b.store _ _))
        (λ k i. walks_on on b g u k (held u k i).act (held u k i).going)

    pick : (n : ℕ) (v : Bool) (r r' : Result) → HeldBy on n u c r → HeldBy on n u c r' → HeldBy on n u c (ite v r r')
    unfolding ite
    pick n true r r' p q = p
    pick n false r r' p q = q

    -- a start: of a lookup, or of anything else
    looks_up : (y d : ℕ) → HeldBy on 1 u c (started b u Lookup y d)
    unfolding started
    looks_up y d = pick 1 _ _ _ tt (pick 1 _ _ _ (pick 1 _ _ _ (onto Quiet (begun Lookup y d 1) (made 0) (λ _ _. refl) (λ k e. (refl, let z : 0 ≡ k = cc in begins refl (sym z)))) tt) tt)

    begins_else : (n : ℕ) (th' : Thread) → HeldBy on (suc (suc n)) u c (carried (bench b.store (upd b.threads u th')) no_row)
    begins_else n th' = onto Quiet th' none (λ _ _. refl) (λ k e. absurd (clash (cc)))

    starts_else : (n : ℕ) (a : Action) (y d : ℕ) → HeldBy on (suc (suc n)) u c (started b u a y d)
    unfolding started
    starts_else n a y d = pick (suc (suc n)) _ _ _ tt (pick (suc (suc n)) _ _ _ (pick (suc (suc n)) _ _ _ (begins_else n _) tt) tt)

    asks : (n y d : ℕ) → HeldBy on (suc (suc n)) u c (asked b u y d)
    unfolding asked
    asks n y d = pick (suc (suc n)) _ _ _ tt (pick (suc (suc n)) _ _ _ tt (pick (suc (suc n)) _ _ _ tt (pick (suc (suc n)) _ _ _ (begins_else n _) tt)))

    acts : (n y d : ℕ) → HeldBy on n u c (acted n b u y d)
    unfolding stepped
    acts zero y d = pick 0 _ _ _ (pick 0 _ _ _ (pick 0 _ _ _ tt step_held) tt) tt
    acts (suc zero) y d = looks_up y d
    acts (suc (suc zero)) y d = starts_else 0 Insert y d
    acts (suc (suc (suc zero))) y d = starts_else 1 Remove y d
    acts (suc (suc (suc (suc zero)))) y d = starts_else 2 Split y d
    acts (suc (suc (suc (suc (suc zero))))) y d = starts_else 3 Join y d
    acts (suc (suc (suc (suc (suc (suc zero)))))) y d = asks 4 y d
    acts (suc (suc (suc (suc (suc (suc (suc _))))))) y d = tt

  held_next : (on : Bool) (b : Bench) (c : ℕ → Poll) (r : Rec) → Ground on b → Held on b c → HeldBy on (r.first % 16) (r.first / 16) c (step_of b r)
  unfolding record_step ite
  held_next on b c r g h = cases (ltb 3 (r.first / 16)) 7 _
      (λ i. cases (ltb r.last (r.first % 16)) 8 _ (λ _. acts on b g c h (r.first / 16) (omega (arith, ltb-false 3 (r.first / 16) i)) (r.first % 16) r.second r.extra))
    where
      cases : (v : Bool) (k : ℕ) (res : Result) → (v ≡ false → HeldBy on (r.first % 16) (r.first / 16) c res) → HeldBy on (r.first % 16) (r.first / 16) c (ite v (refused k) res)
      cases true k res f = tt
      cases false k res f = f refl

  -- ---- the claim at a moment, along a list, along a file

  prompt : (on : Bool) (b : Bench) (c : ℕ → Poll) → Ground on b → Held on b c → Prompt (steps top on) b c
  prompt on b c g h t k e = let o = h t k e in (
    few_steps on b g t k o.going,
    λ l. subst Accepted (sym (step_record b l t o.low (busy on b g t k o.going))) (accepted on b g t k _ (walks_on on b g t k o.act o.going)),
  )

  along : (on : Bool) (rs : List Rec) (b : Bench) (c : ℕ → Poll) → Ground on b → Held on b c → Within (steps top on) rs b c
  along on [] b c g h = prompt on b c g h
  along on (r ∷ rs) b c g h = (prompt on b c g h, go (step_of b r) refl (held_next on b c r g h) (λ b' w e. along on rs b' (counted r w c) (ground_next on b b' r w g e)))
    where
      go : (res : Result) → step_of b r ≡ res → HeldBy on (r.first % 16) (r.first / 16) c res
          → ((b' : Bench) (w : Row) → step_of b r ≡ carried b' w → Held on b' (counted r w c) → Within (steps top on) rs b' (counted r w c))
          → Onward res (λ b' w. Within (steps top on) rs b' (counted r w c))
      go (refused k) e h' ih = tt
      go (carried b' w) e h' ih = ih b' w e h'

  record Stands (on : Bool) (b : Bench) (c : ℕ → Poll) : Type 0 where
    ground : Ground on b
    held : Held on b c

  stands_next : (file : List ℕ) (on : Bool) (p : Progress) (c : ℕ → Poll) (r : Rec) → Stands on p.bench c
      → Stands on (advance file p r).bench (ite (eqb p.refusal 0) (told (step_of p.bench r) r c) c)
  unfolding advance ite
  stands_next file on p c r z = outer (eqb p.refusal 0)
    where
      inner : (res : Result) → step_of p.bench r ≡ res → HeldBy on (r.first % 16) (r.first / 16) c res → Stands on (advance_by file p (r.first / 16) res).bench (told res r c)
      inner (refused k) e h = z
      inner (carried b w) e h = record { ground = ground_next on p.bench b r w z.ground e; held = h }

      outer : (v : Bool) → Stands on (ite v (advance_by file p (r.first / 16) (step_of p.bench r)) p).bench (ite v (told (step_of p.bench r) r c) c)
      outer true = inner (step_of p.bench r) refl (held_next on p.bench c r z.ground z.held)
      outer false = z

  module _ (also-fresh : (on : Bool) → Also (fresh on).store) where
    pub ground_fresh : (on : Bool) → Ground on (fresh on)
    ground_fresh on = record {
      plain = empty;
      kept = kept_fresh on;
      fits = record { numbers = omega arith; stores = omega arith; some = omega arith; gap = λ x l e. absurd (clash (cc)) };
      who = λ _. false;
      tally = tally-begins on;
      also = also-fresh on;
    }

    none_open : (on : Bool) → Held on (fresh on) (λ _. none)
    none_open on t k e = absurd (clash (cc))

    by_file : (file : List ℕ) (k : ℕ) → Stands (stop_of file) (after file k).bench (polls_of file k)
    unfolding after polls_of
    by_file file zero = record { ground = ground_fresh (stop_of file); held = none_open (stop_of file) }
    by_file file (suc k) = stands_next file (stop_of file) (after file k) (polls_of file k) (record_at file k) (by_file file k)

    pub within : LookupsWithin (steps top)
    within = (λ on rs. along on rs (fresh on) (λ _. none) (ground_fresh on) (none_open on), λ file k. let z = by_file file k in prompt (stop_of file) _ _ z.ground z.held)
