-- An expansion's faults stand in files that were read.
use Rattle.std.proofs.Common.{◌≡◌, ℕ, zero, suc, ◌+◌, ◌-◌, ◌<◌, ◌≤◌, Bool, true, false, cond, ◌&&◌, nat_le, drop, List, [], ◌∷◌, ◌++◌, length, Result, Ok, Err, refl, sym, subst, arith}
use Rattle.std.proofs.lemmas.List.{length-append}
use Rattle.std.proofs.lemmas.List.Elements.{All-from_recursion}
use Rattle.std.specs.List.{All}
use Rattle.std.specs.FinMap.{insert}
use Rattle.sg_outside.specs.World.{WorldState}
use Rattle.sg_lex.specs.declared.lexer.TextPosition.{TextPosition}
use Rattle.sg_lex.specs.declared.piece.Lexeme.{Lexeme}
use Rattle.sg_lex.specs.declared.piece.Lexeme.TheVariants.{Gap, Spelled, OpenString, BadByte}
use Rattle.sg_lex.specs.declared.token.Token.{Token}
use Rattle.sg_lex.specs.declared.token.LexFault.{LexFault}
use Rattle.sg_lex.specs.declared.token.LexFault.TheVariants.{OpenString as OpenStringAt, BadByte as BadByteAt, NoMemory as LexNoMemory}
use Rattle.sg_lex.specs.Tokens.{Lexed, spot_behind, first_spot, piece, piece_length, lexed_behind, with_piece, tokens_from, tokens_of}
use Rattle.sg_block.specs.declared.argument.Argument.{Argument}
use Rattle.sg_expand.specs.declared.block.BlockDefinition.{BlockDefinition}
use Rattle.sg_expand.specs.declared.fault.ExpandRefusal.{ExpandRefusal}
use Rattle.sg_expand.specs.declared.fault.ExpandRefusal.TheVariants.{Bad, ReadFault, NoMemory}
use Rattle.sg_expand.specs.declared.fault.Expanded.{Expanded}
use Rattle.sg_expand.specs.declared.frame.Context.{Context}
use Rattle.sg_expand.specs.Expansion.{ExpansionState, ExpansionStep, Faulty, Unread, ExpansionOutcome, Goes, Stops, Moves, Faults, Includes, Uses, begins_version, is_version, ExpansionJob, Tokens, Binding, fault_in, lexed, file_tokens, with_file, step, RunsJob, first_state, first_line, versioned, main_tokens, RunsTokens, RunsMain, IsExpanded}
use Rattle.sg_expand.specs.Expansion.RunsJob.{ends, moves, faults, includes, included_stops, file_faults, file_too_long, file_unread, uses, use_stops, binds, value_stops, body_runs}
use Rattle.sg_expand.specs.Faults.{fault_at}
use Rattle.sg_lex.specs.declared.fault.ConfigFault.{ConfigFault}
use Rattle.sg_lex.specs.declared.fault.ConfigKind.TheVariants.{TooLong, Version}
use Rattle.sg_block.specs.declared.token.FileLine.{FileLine}
use Rattle.sg_expand.specs.Places.{AreFilesPlaced}
use Rattle.sg_block.specs.Tokens.{text_at}
use Rattle.sg_block.specs.Values.{Values}
use Rattle.sg_expand.proofs.Places.{Tabled, IsOfRead, AreOfRead, ArgumentOf, ArgumentsOf, BlockOf, each-drop, each-weaker, tabled-empty, tabled-insert, tabled-weaker, bindings-of, trimmed-of}
use Rattle.sg_expand.proofs.PlacesStep.{StateOf, ContextOf, StepOf, step-of}

-- what a text is lexed to stands in its file
abbrev LexedOf : ℕ → Lexed → Type 0
LexedOf n (Ok tokens) = AreOfRead n tokens
LexedOf n (Err fault) = Unit {0}

behind-of : (n : ℕ) (token : Token) (rest : Lexed) → IsOfRead n token → LexedOf n rest → LexedOf n (lexed_behind token rest)
behind-of n token (Ok tokens) t h = (t, h)
behind-of n token (Err fault) t h = tt

piece-of : (n file : ℕ) (spot : TextPosition) (found : Lexeme) (rest : Lexed) → file < n → LexedOf n rest → LexedOf n (with_piece file spot found rest)
piece-of n file spot (Gap count) rest f h = h
piece-of n file spot (Spelled kind text count) rest f h = behind-of n (record { kind = kind; file = file; line = spot.line; column = spot.column; text = text }) rest f h
piece-of n file spot OpenString rest f h = tt
piece-of n file spot BadByte rest f h = tt

from-of : (n file : ℕ) (spot : TextPosition) (skip : ℕ) (bytes : List ℕ) → file < n → LexedOf n (tokens_from file spot skip bytes)
from-of n file spot skip [] f = tt
from-of n file spot (suc skip) (b ∷ bytes) f = from-of n file (spot_behind spot b) skip bytes f
from-of n file spot zero (b ∷ bytes) f =
    piece-of n file spot (piece spot.before (b ∷ bytes)) (tokens_from file (spot_behind spot b) (piece_length (piece spot.before (b ∷ bytes)) - 1) bytes) f
    (from-of n file (spot_behind spot b) (piece_length (piece spot.before (b ∷ bytes)) - 1) bytes f)

fault_in-of : (n file : ℕ) (text : List ℕ) (fault : LexFault) → file < n → (fault_in file text fault).file < n
fault_in-of n file text (OpenStringAt place) f = f
fault_in-of n file text (BadByteAt place) f = f
fault_in-of n file text LexNoMemory f = f

-- tokens, or what is wrong, stand in one of so many files
abbrev FoundOf : ℕ → Result (List Token) ConfigFault → Type 0
FoundOf n (Ok tokens) = AreOfRead n tokens
FoundOf n (Err fault) = fault.file < n

found-if : (n : ℕ) (b : Bool) (x y : Result (List Token) ConfigFault) → FoundOf n x → FoundOf n y → FoundOf n (cond b x y)
found-if n true x y h k = h
found-if n false x y h k = k

found-lexed : (n file : ℕ) (text : List ℕ) (found : Lexed) → file < n → LexedOf n found → FoundOf n (lexed file text found)
found-lexed n file text (Ok tokens) f h = h
found-lexed n file text (Err fault) f h = fault_in-of n file text fault f

file-found : (n : ℕ) (line : FileLine) (state : ExpansionState) (text : List ℕ) → line.file < n → length state.names < n → FoundOf n (file_tokens line state text)
file-found n line state text l f =
    found-if n (nat_le (state.total + (length text + 1)) 1048576) (lexed (length state.names) text (tokens_of (length state.names) text)) (Err (fault_at TooLong line))
    (found-lexed n (length state.names) text (tokens_of (length state.names) text) f (from-of n (length state.names) first_spot 0 text f)) l

abbrev JobOf : ℕ → ExpansionJob → Type 0
JobOf n (Tokens context fresh tokens) = ContextOf n context × AreOfRead n tokens
JobOf n (Binding context serial body left bound) = ContextOf n context × (AreOfRead n body × (ArgumentsOf n left × Tabled (AreOfRead n) bound))

-- at least so many files were read, and all stands in one of those
abbrev OutcomeOf : ℕ → ExpansionOutcome → Type 0
OutcomeOf n (Goes last world) = (n ≤ length last.names) × StateOf (length last.names) last
OutcomeOf n (Stops (Faulty fault) names world) = fault.file < length names
OutcomeOf n (Stops (Unread name) names world) = Unit {0}

-- with more files
module _ (n m : ℕ) (more : n ≤ m) where
  is-more : (token : Token) → IsOfRead n token → IsOfRead m token
  is-more token h = omega arith

  are-more : (tokens : List Token) → AreOfRead n tokens → AreOfRead m tokens
  are-more tokens h = each-weaker (IsOfRead n) (IsOfRead m) is-more tokens h

  argument-more : (argument : Argument) → ArgumentOf n argument → ArgumentOf m argument
  argument-more argument h = are-more argument.tokens h

  arguments-more : (arguments : List Argument) → ArgumentsOf n arguments → ArgumentsOf m arguments
  arguments-more arguments h = each-weaker (ArgumentOf n) (ArgumentOf m) argument-more arguments h

  values-more : (values : Values) → Tabled (AreOfRead n) values → Tabled (AreOfRead m) values
  values-more values h = tabled-weaker (AreOfRead n) (AreOfRead m) are-more values h

  block-more : (block : BlockDefinition) → BlockOf n block → BlockOf m block
  block-more block h = (arguments-more block.parameters h.0, are-more block.body h.1)

  outcome-less : (outcome : ExpansionOutcome) → OutcomeOf m outcome → OutcomeOf n outcome
  outcome-less (Goes last world) h = let least : m ≤ length last.names = h.0 in (omega arith, h.1)
  outcome-less (Stops (Faulty fault) names world) h = h
  outcome-less (Stops (Unread name) names world) h = tt

-- a file more was read
names-more : (names : List (List ℕ)) (name : List ℕ) (n : ℕ) → length names ≡ n → length (names ++ name ∷ []) ≡ n + 1
names-more names name n e = omega (arith, length-append names (name ∷ []))

file-of : (n : ℕ) (name text : List ℕ) (state : ExpansionState) → StateOf n state → StateOf (n + 1) (with_file name text state)
file-of n name text state s =
    let more : n ≤ n + 1 = omega arith in
    (names-more state.names name n s.0, values-more n (n + 1) more state.variables s.1, tabled-weaker (BlockOf n) (BlockOf (n + 1)) (block-more n (n + 1) more) state.blocks s.2, are-more n (n + 1) more state.out s.3)

-- the tokens behind what goes to a middle
rest-of : (n : ℕ) (context : Context) (tokens : List Token) (middle : ExpansionState) (world : WorldState) → 0 < n → OutcomeOf n (Goes middle world) → ContextOf n context → AreOfRead n tokens
    → (outcome : ExpansionOutcome) → ((m : ℕ) → 0 < m → ContextOf m context → AreOfRead m tokens → StateOf m middle → OutcomeOf m outcome) → OutcomeOf n outcome
rest-of n context tokens middle world some h c t outcome runs =
    let m : ℕ = length middle.names in
    let least : n ≤ length middle.names = h.0 in
    outcome-less n m h.0 outcome (runs m (omega arith) (values-more n m h.0 context.scope c) (are-more n m h.0 tokens t) h.1)

-- the front of some tokens of so many files
asked-of : (n : ℕ) → 0 < n → (context : Context) (fresh : Bool) (tokens : List Token) (state : ExpansionState) (asked : ExpansionStep) → step context fresh tokens state ≡ asked → JobOf n (Tokens context fresh tokens) → StateOf n state → StepOf n asked
asked-of n some context fresh tokens state asked e j s = subst (StepOf n) e (step-of n some context fresh tokens state j.0 j.1 s)

-- the tokens, or the fault, of a file that is read
read-of : (n : ℕ) (line : FileLine) (name : List ℕ) (rest : List Token) (next : ExpansionState) (text : List ℕ) (found : Result (List Token) ConfigFault) → StepOf n (Includes line name rest next) → file_tokens line next text ≡ found → FoundOf (n + 1) found
read-of n line name rest next text found p e =
    let same : length next.names ≡ n = p.1.1.0 in
    let stands : line.file < n = p.0 in
    subst (FoundOf (n + 1)) e (file-found (n + 1) line next text (omega arith) (omega arith))

runs-of : (n : ℕ) → 0 < n → (job : ExpansionJob) (state : ExpansionState) (world : WorldState) (outcome : ExpansionOutcome) → RunsJob job state world outcome → JobOf n job → StateOf n state → OutcomeOf n outcome
runs-of n some _ _ _ _ (ends context fresh tokens state world e) j s =
    let same : length state.names ≡ n = s.0 in
    (omega arith, subst (λ k. StateOf k state) (sym s.0) s)
runs-of n some _ _ _ _ (moves context fresh tokens state world again rest next outcome e r) j s =
    let p = asked-of n some context fresh tokens state (Moves again rest next) e j s in
    runs-of n some _ _ _ _ r (j.0, p.0) p.1
runs-of n some _ _ _ _ (faults context fresh tokens state world kind line e) j s =
    subst (λ k. line.file < k) (sym s.0) (asked-of n some context fresh tokens state (Faults kind line) e j s)
runs-of n some _ _ _ _ (includes context fresh tokens state world line name rest next read bytes found middle later outcome e reads taken r k) j s =
    let p = asked-of n some context fresh tokens state (Includes line name rest next) e j s in
    let o : OutcomeOf (n + 1) (Goes middle later) = runs-of (n + 1) (omega arith) _ _ _ _ r (tabled-empty (AreOfRead (n + 1)), read-of n line name rest next bytes.items (Ok found) p taken) (file-of n name bytes.items next p.1.1) in
    let more : n ≤ n + 1 = omega arith in
    outcome-less n (n + 1) more outcome
    (rest-of (n + 1) context rest middle later (omega arith) o (values-more n (n + 1) more context.scope j.0) (are-more n (n + 1) more rest p.1.0) outcome (λ m has c t at. runs-of m has _ _ _ _ k (c, t) at))
runs-of n some _ _ _ _ (included_stops context fresh tokens state world line name rest next read bytes found refusal names later e reads taken r) j s =
    let p = asked-of n some context fresh tokens state (Includes line name rest next) e j s in
    outcome-less n (n + 1) (omega arith) (Stops refusal names later)
    (runs-of (n + 1) (omega arith) _ _ _ _ r (tabled-empty (AreOfRead (n + 1)), read-of n line name rest next bytes.items (Ok found) p taken) (file-of n name bytes.items next p.1.1))
runs-of n some _ _ _ _ (file_faults context fresh tokens state world line name rest next read bytes fault e reads taken) j s =
    let p = asked-of n some context fresh tokens state (Includes line name rest next) e j s in
    subst (λ k. fault.file < k) (sym (names-more next.names name n p.1.1.0)) (read-of n line name rest next bytes.items (Err fault) p taken)
runs-of n some _ _ _ _ (file_too_long context fresh tokens state world line name rest next read e reads) j s =
    let p = asked-of n some context fresh tokens state (Includes line name rest next) e j s in
    subst (λ k. line.file < k) (sym p.1.1.0) p.0
runs-of n some _ _ _ _ (file_unread context fresh tokens state world line name rest next read e reads) j s = tt
runs-of n some _ _ _ _ (uses context fresh tokens state world block given rest next middle later outcome e r k) j s =
    let p = asked-of n some context fresh tokens state (Uses block given rest next) e j s in
    let o : OutcomeOf n (Goes middle later) = runs-of n some _ _ _ _ r (j.0, (p.0.1, (bindings-of n block.parameters given p.0.0 p.1.0, tabled-empty (AreOfRead n)))) p.1.1.1 in
    rest-of n context rest middle later some o j.0 p.1.1.0 outcome (λ m has c t at. runs-of m has _ _ _ _ k (c, t) at)
runs-of n some _ _ _ _ (use_stops context fresh tokens state world block given rest next refusal names later e r) j s =
    let p = asked-of n some context fresh tokens state (Uses block given rest next) e j s in
    runs-of n some _ _ _ _ r (j.0, (p.0.1, (bindings-of n block.parameters given p.0.0 p.1.0, tabled-empty (AreOfRead n)))) p.1.1.1
runs-of n some _ _ _ _ (binds context serial body argument left bound state world whole later outcome r k) j s =
    let o : OutcomeOf n (Goes whole later) = runs-of n some _ _ _ _ r (j.0, j.1.1.0.0) (s.0, s.1, s.2, tt) in
    let m : ℕ = length whole.names in
    let least : n ≤ length whole.names = o.0 in
    let left-more : ArgumentsOf (length whole.names) left = arguments-more n m o.0 left j.1.1.0.1 in
    let bound-more : Tabled (AreOfRead (length whole.names)) (insert bound argument.name whole.out) = tabled-insert (AreOfRead m) bound argument.name whole.out o.1.3 (values-more n m o.0 bound j.1.1.1) in
    outcome-less n m o.0 outcome
    (runs-of m (omega arith) _ _ _ _ k (values-more n m o.0 context.scope j.0, (are-more n m o.0 body j.1.0, (left-more, bound-more))) (o.1.0, o.1.1, o.1.2, are-more n m o.0 state.out s.3))
runs-of n some _ _ _ _ (value_stops context serial body argument left bound state world refusal names later r) j s = runs-of n some _ _ _ _ r (j.0, j.1.1.0.0) (s.0, s.1, s.2, tt)
runs-of n some _ _ _ _ (body_runs context serial body bound state world outcome r) j s = runs-of n some _ _ _ _ r (j.1.1.1, trimmed-of n body j.1.0) s

-- the main file's tokens
first_line-of : (n : ℕ) (tokens : List Token) → 0 < n → AreOfRead n tokens → (first_line tokens).file < n
first_line-of n [] some h = some
first_line-of n (token ∷ tokens) some h = h.0

versioned-of : (found : Result (List Token) ConfigFault) → FoundOf 1 found → FoundOf 1 (versioned found)
versioned-of (Ok tokens) h =
    found-if 1 (begins_version tokens && is_version (text_at tokens 2)) (Ok (drop 3 tokens)) (Err (fault_at Version (first_line tokens))) (each-drop (IsOfRead 1) 3 tokens h) (first_line-of 1 tokens (omega arith) h)
versioned-of (Err fault) h = h

main-found : (text : List ℕ) → FoundOf 1 (main_tokens text)
main-found text =
    let zero-of : 0 < 1 = omega arith in
    found-if 1 (nat_le (length text) 1048576) (versioned (lexed 0 text (tokens_of 0 text))) (Err (record { kind = TooLong; file = 0; line = 1 }))
    (versioned-of (lexed 0 text (tokens_of 0 text)) (found-lexed 1 0 text (tokens_of 0 text) zero-of (from-of 1 0 first_spot 0 text zero-of))) zero-of

tokens-run-of : (found : Result (List Token) ConfigFault) (name : List ℕ) (world : WorldState) (outcome : ExpansionOutcome) → FoundOf 1 found → RunsTokens found (first_state name) world outcome → OutcomeOf 1 outcome
tokens-run-of (Ok tokens) name world outcome h r = runs-of 1 (omega arith) _ _ _ _ r (tabled-empty (AreOfRead 1), h) (refl, tabled-empty (AreOfRead 1), tabled-empty (BlockOf 1), tt)
tokens-run-of (Err fault) name world outcome h r = subst (OutcomeOf 1) (sym r) h

-- what a main file's text comes to stands in the files that were read
main-of : (name text : List ℕ) (world : WorldState) (outcome : ExpansionOutcome) → RunsMain name text world outcome → OutcomeOf 1 outcome
main-of name text world outcome r = tokens-run-of (main_tokens text) name world outcome (main-found text) r

-- and so does what an expansion answers
pub expanded-placed : (old new : WorldState) (name text : List ℕ) (result : Result Expanded ExpandRefusal) → IsExpanded old new name text result → AreFilesPlaced result
expanded-placed old new name text (Ok expanded) h =
    let o : OutcomeOf 1 (Goes h.0 new) = main-of name text old (Goes h.0 new) h.1.0 in
    let tokens : AreOfRead (length h.0.names) expanded.tokens = subst (AreOfRead (length h.0.names)) (sym h.1.1.0) o.1.3 in
    subst (λ (names : List (List ℕ)). All (IsOfRead (length names)) expanded.tokens) (sym h.1.1.1) (All-from_recursion (IsOfRead (length h.0.names)) expanded.tokens tokens)
expanded-placed old new name text (Err (Bad fault names)) h = main-of name text old (Stops (Faulty fault) names new) h
expanded-placed old new name text (Err (ReadFault file)) h = tt
expanded-placed old new name text (Err NoMemory) h = tt
