-- What a derivation does first.
use Rattle.std.proofs.Common.{◌≡◌, ℕ, Bool, true, false, List, [], ◌∷◌, ◌++◌, Result, Ok, Err, Vec, refl, sym, subst}
use Rattle.std.specs.FinMap as map
use Rattle.std.specs.declared.alloc.Global.{Global}
use Rattle.sg_outside.specs.World.{WorldState, ReadsFile}
use Rattle.sg_device.specs.declared.fault.FileRefusal.{FileRefusal}
use Rattle.sg_device.specs.declared.fault.FileRefusal.TheVariants.{Failed, TooLong as FileTooLong, NoMemory as FileNoMemory}
use Rattle.sg_lex.specs.declared.token.Token.{Token}
use Rattle.sg_lex.specs.declared.fault.ConfigFault.{ConfigFault}
use Rattle.sg_lex.specs.declared.fault.ConfigKind.TheVariants.{TooLong}
use Rattle.sg_block.specs.Arguments.{bindings}
use Rattle.sg_block.specs.Trimmed.{trimmed}
use Rattle.sg_block.specs.declared.token.FileLine.{FileLine}
use Rattle.sg_expand.specs.declared.frame.Context.{Context}
use Rattle.sg_expand.specs.Expansion.{ExpansionState, ExpansionOutcome, Goes, Stops, Faulty, Unread, ExpansionStep, Ends, Moves, Faults, Includes, Uses, step, ExpansionJob, Tokens, Binding, RunsJob, body_context, file_context, file_tokens, with_file, with_out}
use Rattle.sg_expand.specs.Expansion.RunsJob.{ends, moves, faults, includes, included_stops, file_faults, file_too_long, file_unread, uses, use_stops, binds, value_stops, body_runs}
use Rattle.sg_expand.specs.Faults.{fault_at}
use Rattle.sg_expand.specs.Pending.{RunsThen}

-- an `@include`: where it stands, and the state in which its file is read
pub record Inclusion : Type 0 where
  pub context : Context
  pub fresh : Bool
  pub line : FileLine
  pub name : List ℕ
  pub rest : List Token
  pub next : ExpansionState

-- the tokens of the file's text are expanded, and those behind it
abbrev pub TakenThen : Inclusion → WorldState → List ℕ → Result (List Token) ConfigFault → ExpansionOutcome → Type 0
TakenThen at read text (Ok found) outcome =
    RunsThen (Tokens (file_context at.context) true found) (with_file at.name text at.next) read (RunsJob (Tokens at.context at.fresh at.rest)) outcome
TakenThen at read text (Err fault) outcome = outcome ≡ Stops (Faulty fault) (at.next.names ++ at.name ∷ []) read

-- the file was read, or not
abbrev pub ReadThen : Inclusion → WorldState → Result (Vec ℕ Global) FileRefusal → ExpansionOutcome → Type 0
ReadThen at read (Ok bytes) outcome = TakenThen at read bytes.items (file_tokens at.line at.next bytes.items) outcome
ReadThen at read (Err Failed) outcome = outcome ≡ Stops (Unread at.name) at.next.names read
ReadThen at read (Err FileTooLong) outcome = outcome ≡ Stops (Faulty (fault_at TooLong at.line)) at.next.names read
ReadThen at read (Err FileNoMemory) outcome = ⊥

abbrev pub IncludesThen : Inclusion → WorldState → ExpansionOutcome → Type 0
IncludesThen at world outcome =
    (read : WorldState) × ((answer : Result (Vec ℕ Global) FileRefusal) × (ReadsFile world read at.name 1048576 answer × ReadThen at read answer outcome))

-- what the front asks for is done
abbrev pub StepThen : Context → Bool → ExpansionState → WorldState → ExpansionStep → ExpansionOutcome → Type 0
StepThen context fresh state world Ends outcome = outcome ≡ Goes state world
StepThen context fresh state world (Moves again rest next) outcome = RunsJob (Tokens context again rest) next world outcome
StepThen context fresh state world (Faults kind line) outcome = outcome ≡ Stops (Faulty (fault_at kind line)) state.names world
StepThen context fresh state world (Includes line name rest next) outcome =
    IncludesThen (record { context = context; fresh = fresh; line = line; name = name; rest = rest; next = next }) world outcome
StepThen context fresh state world (Uses block given rest next) outcome =
    RunsThen (Binding context block.serial block.body (bindings block.parameters given) map.empty) next world (RunsJob (Tokens context false rest)) outcome

-- the job's first part is done, and then the others
abbrev pub JobThen : ExpansionJob → ExpansionState → WorldState → ExpansionOutcome → Type 0
JobThen (Tokens context fresh tokens) state world outcome = StepThen context fresh state world (step context fresh tokens state) outcome
JobThen (Binding context serial body [] bound) state world outcome = RunsJob (Tokens (body_context context bound serial) true (trimmed body)) state world outcome
JobThen (Binding context serial body (argument ∷ left) bound) state world outcome =
    RunsThen (Tokens context false argument.tokens) (with_out [] state) world
    (λ whole. RunsJob (Binding context serial body left (map.insert bound argument.name whole.out)) (with_out state.out whole)) outcome

-- by the step that the front asks for
asked : (context : Context) (fresh : Bool) (tokens : List Token) (state : ExpansionState) (world : WorldState) (found : ExpansionStep) (outcome : ExpansionOutcome) → step context fresh tokens state ≡ found → StepThen context fresh state world found outcome → JobThen (Tokens context fresh tokens) state world outcome
asked context fresh tokens state world found outcome e h = subst (λ x. StepThen context fresh state world x outcome) (sym e) h

-- by what the file's tokens are
taken-by : (at : Inclusion) (read : WorldState) (text : List ℕ) (found : Result (List Token) ConfigFault) (outcome : ExpansionOutcome) → file_tokens at.line at.next text ≡ found → TakenThen at read text found outcome → TakenThen at read text (file_tokens at.line at.next text) outcome
taken-by at read text found outcome e h = subst (λ x. TakenThen at read text x outcome) (sym e) h

-- a derivation does its job's first part, and then the others
pub does-first : (job : ExpansionJob) (state : ExpansionState) (world : WorldState) (outcome : ExpansionOutcome) → RunsJob job state world outcome → JobThen job state world outcome
does-first _ _ _ _ (ends context fresh tokens state world e) = asked context fresh tokens state world Ends (Goes state world) e refl
does-first _ _ _ _ (moves context fresh tokens state world again rest next outcome e r) = asked context fresh tokens state world (Moves again rest next) outcome e r
does-first _ _ _ _ (faults context fresh tokens state world kind line e) = asked context fresh tokens state world (Faults kind line) _ e refl
does-first _ _ _ _ (includes context fresh tokens state world line name rest next read bytes found middle later outcome e reads taken r k) =
    asked context fresh tokens state world (Includes line name rest next) outcome e
    (read, (Ok bytes, (reads, taken-by (record { context = context; fresh = fresh; line = line; name = name; rest = rest; next = next }) read bytes.items (Ok found) outcome taken (Goes middle later, (r, k)))))
does-first _ _ _ _ (included_stops context fresh tokens state world line name rest next read bytes found refusal names later e reads taken r) =
    asked context fresh tokens state world (Includes line name rest next) (Stops refusal names later) e
    (read, (Ok bytes, (reads, taken-by (record { context = context; fresh = fresh; line = line; name = name; rest = rest; next = next }) read bytes.items (Ok found) (Stops refusal names later) taken (Stops refusal names later, (r, refl)))))
does-first _ _ _ _ (file_faults context fresh tokens state world line name rest next read bytes fault e reads taken) =
    asked context fresh tokens state world (Includes line name rest next) _ e
    (read, (Ok bytes, (reads, taken-by (record { context = context; fresh = fresh; line = line; name = name; rest = rest; next = next }) read bytes.items (Err fault) _ taken refl)))
does-first _ _ _ _ (file_too_long context fresh tokens state world line name rest next read e reads) =
    asked context fresh tokens state world (Includes line name rest next) _ e (read, (Err FileTooLong, (reads, refl)))
does-first _ _ _ _ (file_unread context fresh tokens state world line name rest next read e reads) =
    asked context fresh tokens state world (Includes line name rest next) _ e (read, (Err Failed, (reads, refl)))
does-first _ _ _ _ (uses context fresh tokens state world block given rest next middle later outcome e r k) =
    asked context fresh tokens state world (Uses block given rest next) outcome e (Goes middle later, (r, k))
does-first _ _ _ _ (use_stops context fresh tokens state world block given rest next refusal names later e r) =
    asked context fresh tokens state world (Uses block given rest next) (Stops refusal names later) e (Stops refusal names later, (r, refl))
does-first _ _ _ _ (binds context serial body argument left bound state world whole later outcome r k) = (Goes whole later, (r, k))
does-first _ _ _ _ (value_stops context serial body argument left bound state world refusal names later r) = (Stops refusal names later, (r, refl))
does-first _ _ _ _ (body_runs context serial body bound state world outcome r) = r
