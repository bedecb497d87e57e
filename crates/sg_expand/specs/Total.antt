-- The tokens that come out, and the running total.
use Rattle.std.specs.Prelude.{◌≡◌, ℕ, ◌+◌, ◌<◌, ◌≤◌, nat_le, if◌then◌else◌, List, [], ◌∷◌, ◌++◌, Result, Ok, Err}
use Rattle.sg_lex.specs.declared.token.Token.{Token}
use Rattle.sg_lex.specs.declared.fault.ConfigKind.TheVariants.{TooLong}
use Rattle.sg_block.specs.declared.token.FileLine.{FileLine}
use Rattle.sg_block.specs.Tokens.{token_size, line_of}
use Rattle.sg_expand.specs.declared.fault.ExpandStop.{ExpandStop}
use Rattle.sg_expand.specs.declared.fault.ExpandStop.TheVariants.{Fault, ReadFault, NoMemory}
use Rattle.sg_expand.specs.Faults.{fault_at}

-- the running total once the tokens are counted, or where the one stands with which it passes the limit
abbrev pub counted : ℕ → List Token → Result ℕ FileLine
counted total [] = Ok total
counted total (token ∷ tokens) = if nat_le (total + token_size token) 1048576
    then counted (total + token_size token) tokens else Err (line_of token)

abbrev pub Charges : ℕ → FileLine → ℕ → ℕ → Result Unit ExpandStop → Type 0
Charges size line old new (Ok done) = (new ≡ old + size) × (old + size ≤ 1048576)
Charges size line old new (Err (Fault fault)) = (fault ≡ fault_at TooLong line)
    × (1048576 < old + size) × (new ≡ old)
Charges size line old new (Err (ReadFault name)) = ⊥
Charges size line old new (Err NoMemory) = ⊥

-- the tokens came out behind the others
abbrev pub Emits : List Token → List Token → ℕ → List Token → ℕ → Result Unit ExpandStop → Type 0
Emits tokens out total out' total' (Ok done) = (counted total tokens ≡ Ok total')
    × (out' ≡ out ++ tokens)
Emits tokens out total out' total' (Err (Fault fault)) = (line : FileLine)
    × (counted total tokens ≡ Err line) × (fault ≡ fault_at TooLong line)
Emits tokens out total out' total' (Err (ReadFault name)) = ⊥
Emits tokens out total out' total' (Err NoMemory) = Unit {0}

-- the size, where it is within the limit; else more than that
abbrev pub IsSize : ℕ → ℕ → Type 0
IsSize size found = (size ≤ 1048576 → found ≡ size) × (1048576 < size → 1048576 < found)
