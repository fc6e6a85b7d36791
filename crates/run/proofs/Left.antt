-- What a step at a place from 60 on writes and leaves: the cases of its code, each with the code's own facts as premises. It rests
-- on Lending.antt.
use Rattle.std.specs.Prelude.{Result, Ok, Err, IsErrAnd}
use Rattle.std.proofs.lemmas.Result.{err_from_is_err_and}
use mathlib.Core.Path.{◌≡◌, refl, sym, ap, ◌∙◌, subst}
use mathlib.Core.Bool.{false, not}
use mathlib.Core.List.{List}
use Prim.Native.Nat.{ℕ, ◌-◌, ◌≤◌}
use lib.Dec.{eqb}
use lib.ListN.{length}
use Rattle.container.specs.Choice.{upd}
use Rattle.depths.specs.Rows.{Rows, full}
use Rattle.effects.specs.Used.{deepened}
use Rattle.frames.specs.View.{frames_of}
use Rattle.frames.specs.Turns.{Backs}
use Rattle.frames.specs.Outcomes.{Ending, told_in, Takes, Stands, refusal_for}
use Rattle.frames.specs.declared.Outcome.{Outcome}
use Rattle.frames.specs.declared.Outcome.TheVariants.{Onward, Blocked, Back, Found}
use Rattle.frames.specs.declared.Shortage.{Shortage}
use Rattle.frames.specs.declared.Shortage.TheVariants.{Nodes, Stores}
use Rattle.queries.specs.Turns.{depth_after}
use Rattle.queries.proofs.Blind.{blind}
use Rattle.definitions.specs.Nodes.{Shapes, Stores as Results}
use Rattle.answers.proofs.StepEffects.{Each}
use Rattle.definitions.specs.Threads.{Frame, Thread, idle}
use Rattle.definitions.specs.Bench.{stop, Store, store, sight, sight_of, Bench, bench}
use Rattle.definitions.specs.Answers.{said}
use Rattle.definitions.specs.Places.{place_of, to_base, to_frames}
use Rattle.definitions.specs.Effects.{perform}
use Rattle.definitions.specs.Steps.{step}
use Rattle.definitions.specs.Records.{no_row, row, carried, taken}
use Rattle.definitions.specs.declared.Effect.{Effect}
use Rattle.definitions.specs.declared.Effect.TheVariants.{Quiet}
use Rattle.definitions.specs.declared.Refusal.{Refusal}
use Rattle.definitions.specs.declared.Stop.{Stop}
use Rattle.steps.specs.declared.Notes.{Notes}
use Rattle.steps.specs.Decision.{thread}
use Rattle.run.specs.Query.{Ranged, Wrote, Leaves, Still}
use Rattle.run.specs.declared.query.Counts.{Counts}
use Rattle.run.specs.declared.query.Left.{Left}
use Rattle.run.specs.declared.query.Left.TheVariants.{Goes}
use Rattle.run.proofs.Lending.{Inside, step_inside}
use Rattle.run.proofs.Ranging.{ranged}

-- ---- what is written

abbrev counts : ℕ → ℕ → ℕ → Counts
counts o u j = record { root = o; used = u; shown = j }

-- nothing is written
pub stays : {t : Shapes} {l : List ℕ} {k : Results} → Still t l k t l k
stays = record { nodes = refl; depths = refl; stores = refl }

-- a thread without frames goes back to 1
pub back_none : (h : ℕ → Frame) (t d : ℕ) → d ≡ 0 → Backs h h t d 1
back_none h t d z = record { turn = λ e th. rw z; others = λ _ _ _ _. refl }

-- ---- what is left: h' holds the frames after the step, whose outcome is r

module _ (t : Shapes) (k : Results) (o u j : ℕ) (h h' : ℕ → Frame) (i n : ℕ) (th : Notes) {r : Ending}
    (q : Takes h h' i n r (Stands th.place th.action th.station th.extra) (step (place_of th.place) (sight t o u k j (stop false 0)))) (above : 60 ≤ th.place) where
  told : {w : Ending} → r ≡ w
      → told_in w (frames_of h' i n) (frames_of h' i (n - 1)) (thread th (frames_of h i n)) ≡ step (place_of th.place) (sight t o u k j (stop false 0)) (thread th (frames_of h i n))
  told e = ap (λ (v : Ending). told_in v (frames_of h' i n) (frames_of h' i (n - 1)) (thread th (frames_of h i n))) (sym e)
      ∙ q.turn (thread th (frames_of h i n)) refl (record { place = refl; action = refl; station = refl; extra = refl })

  told_in_lem : {w : Ending} → r ≡ w → (b : Bench) (d : Rows) (z : Stop) → b.store ≡ store (full t d) o u k j z → b.threads i ≡ thread th (frames_of h i n)
      → taken b i (step (place_of (b.threads i).place) (sight_of b.store) (b.threads i)) ≡ taken b i (told_in w (frames_of h' i n) (frames_of h' i (n - 1)) (thread th (frames_of h i n)))
  told_in_lem e b d z s f =
      ap (λ (v : Thread). taken b i (step (place_of v.place) (sight_of b.store) v)) f
      ∙ (ap (λ (v : Store). taken b i (step (place_of th.place) (sight_of v) (thread th (frames_of h i n)))) s
      ∙ ap (taken b i) (blind t o u k j z (stop false 0) (thread th (frames_of h i n)) th.place above ∙ sym (told e)))

  -- it writes nothing but nodes and results of its own
  pub turn_ranged : {v : Outcome} {p : ℕ} {e : Effect} → r ≡ Ok v → v ≡ Onward p e → Ranged e
  turn_ranged a f = ranged (sight t o u k j (stop false 0)) (thread th (frames_of h i n)) th.place above (told (a ∙ ap Ok f))

  module _ (l : List ℕ) where
    -- it has run out of numbers or of stores
    short_by : (s : Shortage) → r ≡ Err s → Leaves t l k o u j h i n th t l k h' (Err (refusal_for s))
    unfolding taken
    short_by Nodes a = record {
      effect = Quiet;
      turn = λ b d z s y. told_in_lem a b d z s y;
      depths = λ _. refl;
      inside = λ m. (tt, m);
      whole = λ _. refl;
      others = q.others;
      same = λ _. (refl, (refl, (refl, q.same (rw a tt))));
    }
    short_by Stores a = record {
      effect = Quiet;
      turn = λ b d z s y. told_in_lem a b d z s y;
      depths = λ _. refl;
      inside = λ m. (tt, m);
      whole = λ _. refl;
      others = q.others;
      same = λ _. (refl, (refl, (refl, q.same (rw a tt))));
    }

    -- and hands on the refusal
    pub turn_short : {s : Shortage} → r ≡ Err s → (x : Result Left Refusal) → IsErrAnd x (λ f. f ≡ refusal_for s) → Leaves t l k o u j h i n th t l k h' x
    turn_short {s} a x e = let p = err_from_is_err_and x e in rw (p.1, p.2) (short_by s a)

    -- it leaves v: it goes on, and w is what it wrote
    module _ {v : Outcome} (own : r ≡ Ok v) where
      pub turn_on : {p c : ℕ} {e : Effect} {t' : Shapes} {l' : List ℕ} {k' : Results} {w : Counts} → v ≡ Onward p e → c ≡ depth_after r n → Wrote t l k o u j e t' l' k' w
          → Leaves t l k o u j h i n th t' l' k' h' (Ok (Goes w p th.base c))
      unfolding taken
      turn_on {p} {c} {e} {t'} {l'} {k'} {w} a f g =
          let each_inside = step_inside (store (full t (λ _ _. 0)) o u k j (stop false 0)) (place_of th.place) (thread th (frames_of h i n)) in
          let same : n ≡ c = sym (f ∙ ap (λ (v : Ending). depth_after v n) (own ∙ ap Ok a)) in
          let stored : (d : Rows) (z : Stop) → perform e (store (full t d) o u k j z) ≡ store (full t' (deepened e t d)) w.root w.used k' w.shown z =
          λ d z. sym (rw (g.used, g.shown) (g.enacted.nodes.stored d z)) in
          record {
            effect = e;
            turn = λ b d z s y. told_in_lem (own ∙ ap Ok a) b d z s y
                ∙ (ap (λ (v : Store). carried (bench (perform e v) (upd b.threads i (to_frames p (frames_of h' i n) (thread th (frames_of h i n))))) no_row) s
                ∙ (ap (λ (v : Store). carried (bench v (upd b.threads i (to_frames p (frames_of h' i n) (thread th (frames_of h i n))))) no_row) (stored d z)
                ∙ ap (λ (m : ℕ). carried (bench (store (full t' (deepened e t d)) w.root w.used k' w.shown z) (upd b.threads i (to_base p th.base (thread th (frames_of h' i m))))) no_row) same));
            depths = g.enacted.depths.rows;
            inside = λ m. subst (Each (Inside u)) (sym (told (own ∙ ap Ok a))) each_inside (length l) (rw g.used at m);
            whole = g.whole;
            others = q.others;
            same = λ z. absurd z;
          }

      -- it writes nothing, and its thread is at the place p with the base x, and has m frames that h' holds
      moves : (p x m : ℕ) {c : ℕ} {w : Outcome} → v ≡ w → c ≡ m → ((b : Bench) → taken b i (told_in (Ok w) (frames_of h' i n) (frames_of h' i (n - 1)) (thread th (frames_of h i n)))
          ≡ carried (bench b.store (upd b.threads i (to_base p x (thread th (frames_of h' i m))))) no_row)
          → Leaves t l k o u j h i n th t l k h' (Ok (Goes (counts o u j) p x c))
      moves p x m {c} a f g = record {
        effect = Quiet;
        turn = λ b d z s y. told_in_lem (own ∙ ap Ok a) b d z s y
            ∙ (g b
            ∙ (ap (λ (v : Store). carried (bench v (upd b.threads i (to_base p x (thread th (frames_of h' i m))))) no_row) s
            ∙ ap (λ (v : ℕ). carried (bench (store (full t d) o u k j z) (upd b.threads i (to_base p x (thread th (frames_of h' i v))))) no_row) (sym f)));
        depths = λ _. refl;
        inside = λ m. (tt, m);
        whole = λ _. refl;
        others = q.others;
        same = λ z. absurd z;
      }

      module _ {c : ℕ} (f : c ≡ depth_after r n) where
        pub turn_blocked : {x : ℕ} → v ≡ Blocked x → Leaves t l k o u j h i n th t l k h' (Ok (Goes (counts o u j) 15 x c))
        unfolding taken
        turn_blocked {x} a = moves 15 x n a (f ∙ ap (λ (v : Ending). depth_after v n) (own ∙ ap Ok a)) (λ b. refl)

        pub turn_back : {p : ℕ} → v ≡ Back p → Leaves t l k o u j h i n th t l k h' (Ok (Goes (counts o u j) p th.base c))
        unfolding taken
        turn_back {p} a = moves p th.base (n - 1) a (f ∙ ap (λ (v : Ending). depth_after v n) (own ∙ ap Ok a)) (λ b. refl)

      pub turn_found : {m : ℕ} → v ≡ Found m → Leaves t l k o u j h i n th t l k h' (Ok (Left.Found (counts o u j) m))
      unfolding taken
      turn_found {m} a = record {
        effect = Quiet;
        turn = λ b d z s y. told_in_lem (own ∙ ap Ok a) b d z s y ∙ ap (λ (v : Store). carried (bench v (upd b.threads i idle)) (row (said (not (eqb m 0))) 0 m)) s;
        depths = λ _. refl;
        inside = λ m. (tt, m);
        whole = λ _. refl;
        others = q.others;
        same = λ z. absurd z;
      }
