-- The numbers of refusals: document 01, "Why an operation is turned down"; 22 and 23 are a class report's, 24 of document 02, E4.
use Rattle.std.specs.Prelude.{ℕ, ◌≡◌, ◌≤◌, Result, ◌-◌, List, [], ◌∷◌, get_or, Result.Ok, Result.Err}
use Rattle.std.proofs.Math.Path.{refl, sym, ap}
use Rattle.std.proofs.Common.{◌∙◌, arith}
use Rattle.rules.specs.declared.refusals.Refusal.{Refusal}
use Rattle.rules.specs.declared.refusals.Refusal.TheVariants.{NoRoom, NotSound, CutShort, BadNumber, NotASheet, UnknownCode, OutOfRange, CallerNotRunning}
use Rattle.rules.specs.declared.refusals.Refusal.TheVariants.{NeverMade, WrongKind, Gone, NoSuchSlot, AlreadyClaimed, StickyFired, NotHeld, WrongState}
use Rattle.rules.specs.declared.refusals.Refusal.TheVariants.{BlockGone, ConflictingHold, LatchRange, TooManyObjects, TooManyLinks, TooLong, LowerLearner, CountReached}

abbrev pub number : Refusal → ℕ
number NoRoom = 1
number NotSound = 2
number CutShort = 3
number BadNumber = 4
number NotASheet = 5
number UnknownCode = 6
number OutOfRange = 7
number CallerNotRunning = 8
number NeverMade = 9
number WrongKind = 10
number Gone = 11
number NoSuchSlot = 12
number AlreadyClaimed = 13
number StickyFired = 14
number NotHeld = 15
number WrongState = 16
number BlockGone = 17
number ConflictingHold = 18
number LatchRange = 19
number TooManyObjects = 20
number TooManyLinks = 21
number TooLong = 22
number LowerLearner = 23
number CountReached = 24

-- a refusal as it is told: its number, 0 where there is none
abbrev pub refusal_told : {A : Type 0} → Result A Refusal → ℕ
refusal_told (Ok a) = 0
refusal_told (Err r) = number r

-- Two refusals of one number are one.
abbrev all : List Refusal
all =
    NoRoom ∷ NotSound ∷ CutShort ∷ BadNumber ∷ NotASheet ∷ UnknownCode ∷ OutOfRange ∷ CallerNotRunning ∷
    NeverMade ∷ WrongKind ∷ Gone ∷ NoSuchSlot ∷ AlreadyClaimed ∷ StickyFired ∷ NotHeld ∷ WrongState ∷
    BlockGone ∷ ConflictingHold ∷ LatchRange ∷ TooManyObjects ∷ TooManyLinks ∷ TooLong ∷ LowerLearner ∷ CountReached ∷ []

back : (r : Refusal) → get_or all (number r - 1) NoRoom ≡ r
back NoRoom = refl
back NotSound = refl
back CutShort = refl
back BadNumber = refl
back NotASheet = refl
back UnknownCode = refl
back OutOfRange = refl
back CallerNotRunning = refl
back NeverMade = refl
back WrongKind = refl
back Gone = refl
back NoSuchSlot = refl
back AlreadyClaimed = refl
back StickyFired = refl
back NotHeld = refl
back WrongState = refl
back BlockGone = refl
back ConflictingHold = refl
back LatchRange = refl
back TooManyObjects = refl
back TooManyLinks = refl
back TooLong = refl
back LowerLearner = refl
back CountReached = refl

pub same_refusal : (r q : Refusal) → number r ≡ number q → r ≡ q
same_refusal r q e = sym (back r) ∙ ap (λ (n : ℕ). get_or all (n - 1) NoRoom) e ∙ back q

-- no refusal is told as 0
pub number_some : (r : Refusal) → 1 ≤ number r
number_some NoRoom = omega arith
number_some NotSound = omega arith
number_some CutShort = omega arith
number_some BadNumber = omega arith
number_some NotASheet = omega arith
number_some UnknownCode = omega arith
number_some OutOfRange = omega arith
number_some CallerNotRunning = omega arith
number_some NeverMade = omega arith
number_some WrongKind = omega arith
number_some Gone = omega arith
number_some NoSuchSlot = omega arith
number_some AlreadyClaimed = omega arith
number_some StickyFired = omega arith
number_some NotHeld = omega arith
number_some WrongState = omega arith
number_some BlockGone = omega arith
number_some ConflictingHold = omega arith
number_some LatchRange = omega arith
number_some TooManyObjects = omega arith
number_some TooManyLinks = omega arith
number_some TooLong = omega arith
number_some LowerLearner = omega arith
number_some CountReached = omega arith
