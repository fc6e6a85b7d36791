-- What the functions of thread.rt hand back and have written, one law for each way out; p is the page before, n the thread's notes. Assumes nothing.
use Rattle.std.specs.Prelude.{Some}
use mathlib.Core.Path.{◌≡◌, refl, ap, ◌∙◌}
use mathlib.Core.Bool.{Bool, true, false}
use mathlib.Core.List.{List, [], ◌++◌}
use Prim.Native.Nat.{ℕ, ◌≤◌, ◌<◌}
use borrow.Author.Tests.{lt-ltb, le-ltb, eq-eqb, ne_eqb}
use Rattle.container.specs.Choice.{ite}
use Rattle.definitions.specs.Threads.{Frame, Thread}
use Rattle.definitions.specs.Records.{action_number}
use Rattle.definitions.specs.Run.{bytes_of}
use Rattle.steps.specs.declared.Notes.{Notes}
use Rattle.steps.specs.Decision.{thread}
use Rattle.snapshot.specs.Layout.{zeros, noted, has_route, has_base, has_parent, has_side, has_found, has_neighbour, has_main, has_grandparent, has_other, thread_head}
use Rattle.snapshot.specs.Parts.{number_of, read_of, side_of, operation, flags, early, late}
use Rattle.snapshot.proofs.Pages.{four_then}

-- ---- numbers

module _ (n : Notes) where
  pub number_idle : n.place ≡ 0 → 0 ≡ number_of (thread n [])
  unfolding ite
  number_idle e = rw (eq-eqb _ _ e)

  pub number_busy : {r : ℕ} → (n.place ≡ 0 → ⊥) → r ≡ action_number n.action → r ≡ number_of (thread n [])
  unfolding ite
  number_busy h e = e ∙ rw (ne_eqb _ _ h)

  pub read_few : n.place ≡ 2 → n.read < 8 → n.read ≡ read_of (thread n [])
  unfolding ite
  read_few e h = rw (eq-eqb _ _ e, lt-ltb _ _ h)

  pub read_many : n.place ≡ 2 → 8 ≤ n.read → 8 ≡ read_of (thread n [])
  unfolding ite
  read_many e h = rw (eq-eqb _ _ e, le-ltb _ _ h)

  pub read_none : (n.place ≡ 2 → ⊥) → 0 ≡ read_of (thread n [])
  unfolding ite
  read_none h = rw (ne_eqb _ _ h)

  pub side_left : {r : Bool} → r ≡ has_side n.place → r ≡ true → n.left ≡ true → 1 ≡ side_of (thread n [])
  unfolding ite
  side_left e h d = rw (← e, h, d)

  pub side_right : {r : Bool} → r ≡ has_side n.place → r ≡ true → n.left ≡ false → 2 ≡ side_of (thread n [])
  unfolding ite
  side_right e h d = rw (← e, h, d)

  pub side_none : {r : Bool} → r ≡ has_side n.place → r ≡ false → 0 ≡ side_of (thread n [])
  unfolding ite
  side_none e h = rw (← e, h)

-- ---- the whole

-- what comes after the notes
early_then : (th : Thread) (t : List ℕ) → early th ++ t
    ≡ noted (has_route th.place) (Some th.route)
    ++ (noted (has_base th.place) (Some th.base)
    ++ (noted (has_parent th.place) (Some th.parent)
    ++ (noted (has_found th.place) (Some th.found)
    ++ t)))
early_then th t =
    four_then (noted (has_route th.place) (Some th.route)) (noted (has_base th.place) (Some th.base))
    (noted (has_parent th.place) (Some th.parent)) (noted (has_found th.place) (Some th.found)) t

late_then : (th : Thread) (t : List ℕ) → late th ++ t
    ≡ noted (has_neighbour th.place) (Some th.neighbour)
    ++ (noted (has_main th.place) (Some th.main)
    ++ (noted (has_grandparent th.place) th.grandparent
    ++ (noted (has_other th.place) (Some th.other)
    ++ t)))
late_then th t =
    four_then (noted (has_neighbour th.place) (Some th.neighbour)) (noted (has_main th.place) (Some th.main))
    (noted (has_grandparent th.place) th.grandparent) (noted (has_other th.place) (Some th.other)) t

pub head_parts : (k : ℕ) (th : Thread) → (operation th ++ (flags th ++ (early th ++ late th))) ++ (bytes_of 1 k ++ zeros 7) ≡ thread_head k th
unfolding thread_head
head_parts k th =
    four_then (operation th) (flags th) (early th) (late th) (bytes_of 1 k ++ zeros 7)
    ∙ ap (λ (x : List ℕ). operation th ++ (flags th ++ x))
    (ap (λ (x : List ℕ). early th ++ x) (late_then th (bytes_of 1 k ++ zeros 7)) ∙ early_then th _)

-- the frames of a thread are not among its first bytes
pub head_notes : (k : ℕ) (n : Notes) (fs : List Frame) → thread_head k (thread n []) ≡ thread_head k (thread n fs)
unfolding thread_head
head_notes k n fs = refl

pub ruleset number_cases = (number_idle, number_busy)

pub ruleset read_cases = (read_few, read_many, read_none)

pub ruleset side_cases = (side_left, side_right, side_none)
