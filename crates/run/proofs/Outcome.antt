-- What a decided step below 60 makes of the bench, by what it decides: for the loop of a run, whose threads are notes with frames apart from
-- them. Assumes nothing.
use mathlib.Core.Path.{◌≡◌, sym, ap, ◌∙◌}
use mathlib.Core.List.{List}
use Prim.Native.Nat.{ℕ}
use Rattle.container.specs.Choice.{upd}
use Rattle.definitions.specs.Threads.{Frame, Thread, Turn, idle, Moves}
use Rattle.definitions.specs.Frames.{back_in, back}
use Rattle.definitions.specs.Bench.{Bench, bench, sight_of}
use Rattle.definitions.specs.Places.{place_of, to_frames}
use Rattle.definitions.specs.Effects.{perform}
use Rattle.definitions.specs.Answers.{shown, depth_in}
use Rattle.definitions.specs.Steps.{step}
use Rattle.definitions.specs.Records.{no_row, row, Result, refused, carried, taken}
use Rattle.definitions.specs.declared.Answer.{Answer}
use Rattle.definitions.specs.declared.Effect.{Effect}
use Rattle.steps.specs.declared.Notes.{Notes}
use Rattle.effects.specs.Writes.{effect_of}
use Rattle.effects.specs.declared.Write.{Write}
use Rattle.steps.specs.declared.Note.{Note}
use Rattle.steps.specs.declared.Decision.{Decision}
use Rattle.steps.specs.declared.Decision.TheVariants.{Goes, Answers, NodesOut, Back}
use Rattle.steps.specs.Decision.{thread, turn_of, top_after}
use Rattle.machine.specs.Noted.{frames_after, Noted}
use Rattle.run.proofs.Decided.{reread, written, counted, tallied, Decided}

-- thread t has the notes th and the frames fs, and with k routes read decides d
module _ (b : Bench) (t : ℕ) (th : Notes) (k : ℕ) (fs : List Frame) (d : Decision) (own : b.threads t ≡ thread th fs) (says : Decided (sight_of b.store) th k d) where
  -- what a step record makes of the bench, where the thread is not idle
  abbrev pub outcome : Result
  outcome = taken b t (step (place_of (b.threads t).place) (sight_of b.store) (b.threads t))

  abbrev pub effect : Effect
  effect = written d

  -- the frame that it puts on top, where it does
  abbrev pub top : Frame
  top = top_after (step (place_of th.place) (sight_of b.store) (thread th fs))

  abbrev now : Thread
  now = thread (reread k th) fs

  so : {v : Decision} → d ≡ v → outcome ≡ taken b t (tallied th.place (turn_of top now v))
  so e = rw own (ap (taken b t) (says.turn fs ∙ ap (λ (v : Decision). tallied th.place (turn_of top now v)) e))

  -- it goes on: r are its notes then
  pub goes_on_lem : {e : Write} {p : ℕ} {m : Note} {r : Notes} → d ≡ Goes e p m → Noted (reread k th) r m p
      → outcome ≡ carried (bench (perform (counted th.place effect) b.store) (upd b.threads t (thread r (frames_after m top fs)))) no_row
  unfolding taken
  goes_on_lem i n = so i ∙ rw (i, n.after top fs)

  pub finishes : {e : Write} {a : Answer} → d ≡ Answers e a
      → outcome ≡ carried (bench (perform (counted th.place effect) b.store) (upd b.threads t idle)) (row (shown a) (depth_in a b.store.nodes th.station) 0)
  unfolding taken
  finishes i = so i ∙ rw (i, own)

  pub runs_out : d ≡ NodesOut → outcome ≡ refused 13
  unfolding taken
  runs_out i = so i

  -- its frames lead to the place p and are then gs; r are its notes at p
  pub goes_back : {e : Write} {r : Notes} {p : ℕ} {gs : List Frame} → d ≡ Back e → Noted (reread k th) r Note.Nothing p → Moves (to_frames p gs now) effect ≡ back_in fs effect now
      → outcome ≡ carried (bench (perform (counted th.place effect) b.store) (upd b.threads t (thread r gs))) no_row
  unfolding taken back
  goes_back {e} {r} {p} {gs} i n q =
      let same : thread r gs ≡ to_frames p gs now = ap (λ (w : Thread). to_frames w.place gs w) (n.after top fs) in
      let to : Moves (to_frames p gs now) (effect_of e) ≡ back_in fs (effect_of e) now = rw i at q in
      so i ∙ (ap (λ (w : Turn). taken b t (tallied th.place w)) (sym to) ∙ rw (i, same))
