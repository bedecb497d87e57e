-- What a reader takes off the front of a text.
use Rattle.std.specs.Prelude.{◌≡◌, ◌≤◌, ℕ, List, ◌++◌, length, Bool, Option, MatchOption, Result, IfOk}
use Rattle.std.specs.Bool.{MatchBool}
use Rattle.std.specs.declared.alloc.AllocError.{AllocError}
use Rattle.sg_msg.specs.Message.{NameValue}
use Rattle.sg_msg.specs.Build.{Build}

-- The front of the old text says the value and the new one follows, or it says nothing of the kind. What is left is no longer.
abbrev pub TakesValue : {V : Type 0} → (List ℕ → V → List ℕ → Type 0) → List ℕ → List ℕ → Option V
    → Type 0
TakesValue {V} Says old new found =
    MatchOption found
    (((value : V) (rest : List ℕ) → ¬ Says old value rest) × (length new ≤ length old))
    (λ value. Says old value new × (length new ≤ length old))

-- the same of a reader that may lack memory
abbrev pub TryTakes : {V : Type 0} → (List ℕ → V → List ℕ → Type 0) → List ℕ → List ℕ
    → Result (Option V) AllocError → Type 0
TryTakes Says old new result = IfOk result (λ found. TakesValue Says old new found)

-- the same of a reader that puts the pairs that it takes
abbrev pub PutsPairs : (List ℕ → List NameValue → List ℕ → Type 0) → List ℕ → List ℕ → Build → Build
    → Result Bool AllocError → Type 0
PutsPairs Says old new before after result =
    IfOk result (λ taken. MatchBool taken
    ((pairs : List NameValue) × (Says old pairs new
    × (after ≡ record before { put = before.put ++ pairs }) × (length new ≤ length old)))
    (((pairs : List NameValue) (rest : List ℕ) → ¬ Says old pairs rest)
    × (length new ≤ length old)))
