-- No refusal has the number 0. Assumes nothing.
use Rattle.std.proofs.Common.{◌≡◌, refl, ℕ, true, false, ◌≤◌, lit≤, arith}
use Rattle.std.specs.Prelude.{Result, Ok, Err, IsErrAnd, OnOk, is_ok}
use Rattle.std.proofs.lemmas.Result.{err_from_is_err_and}
use Rattle.definitions.specs.Refusal.{refusal_number, code_of}
use Rattle.definitions.specs.declared.Refusal.{Refusal}
use Rattle.definitions.specs.declared.Refusal.TheVariants.{ShortFile, Version, Count, Length, RowBuffer, TextBuffer, Thread, Action}
use Rattle.definitions.specs.declared.Refusal.TheVariants.{Station, UnusedBytes, Busy, Idle, Numbers, Depth, UpperEnd, Stores, OtherThread}
use Rattle.definitions.specs.declared.Refusal.TheVariants.{OutputBuffer, Tally, Event, Operations, Unfinished, Barred, StateBuffer}

pub numbered : (r : Refusal) → 1 ≤ refusal_number r
numbered ShortFile = lit≤ tt
numbered Version = lit≤ tt
numbered Count = lit≤ tt
numbered Length = lit≤ tt
numbered RowBuffer = lit≤ tt
numbered TextBuffer = lit≤ tt
numbered Thread = lit≤ tt
numbered Action = lit≤ tt
numbered Station = lit≤ tt
numbered UnusedBytes = lit≤ tt
numbered Busy = lit≤ tt
numbered Idle = lit≤ tt
numbered Numbers = lit≤ tt
numbered Depth = lit≤ tt
numbered UpperEnd = lit≤ tt
numbered Stores = lit≤ tt
numbered OtherThread = lit≤ tt
numbered OutputBuffer = lit≤ tt
numbered Tally = lit≤ tt
numbered Event = lit≤ tt
numbered Operations = lit≤ tt
numbered Unfinished = lit≤ tt
numbered Barred = lit≤ tt
numbered StateBuffer = lit≤ tt

pub refused : (r : Refusal) → refusal_number r ≡ 0 → ⊥
refused r e = omega (arith, numbered r)

-- what `?` hands on has the number that came
pub handed_on : {A : Type 0} (r : Result A Refusal) (k : Refusal) → IsErrAnd r (λ e. e ≡ k) → code_of r ≡ refusal_number k
handed_on r k h = let p = err_from_is_err_and r h in rw (p.1, p.2)

pub refused_as : (r : Refusal) {n : ℕ} → n ≡ refusal_number r → n ≡ 0 → ⊥
refused_as r e z = omega (arith, numbered r)

-- ---- a test that is asked for its outcome alone

module _ {A : Type 0} where
  pub passed_code : (r : Result A Refusal) → is_ok r ≡ true → code_of r ≡ 0
  passed_code (Ok a) e = refl
  passed_code (Err k) e = cc

  pub passed : {P : Type 0} (r : Result A Refusal) → OnOk r P → is_ok r ≡ true → P
  passed (Ok a) p e = p
  passed (Err k) p e = cc

  pub failed_code : (r : Result A Refusal) → is_ok r ≡ false → code_of r ≡ 0 → ⊥
  failed_code (Ok a) e z = cc
  failed_code (Err k) e z = refused k z
