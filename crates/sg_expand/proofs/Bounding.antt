-- The tokens that came out are never more than the total.
use Rattle.std.proofs.Common.{◌≡◌, ℕ, ◌+◌, ◌<◌, ◌≤◌, ⊎_elim, Bool, true, false, cond, nat_le, List, [], ◌∷◌, length, drop, Option, Some, None, Result, Ok, Err, refl, sym, subst, ◌∙◌, arith}
use Rattle.std.specs.Prelude.{slice_get, ◌&&◌, ◌||◌, ◌==◌, codes}
use Rattle.std.specs.Str.{bytes_eq}
use Rattle.std.specs.FinMap as map
use Rattle.std.proofs.lemmas.Bool.{cases_lt, le-leb, lt-leb}
use Rattle.std.proofs.lemmas.List.{length-append}
use Rattle.sg_outside.specs.World.{WorldState}
use Rattle.sg_list.specs.Lists.{passes_at}
use Rattle.sg_lex.specs.declared.token.Token.{Token}
use Rattle.sg_lex.specs.declared.fault.ConfigKind.TheVariants.{IncludeDepth, MissingArgument, UnknownArgument, TooLong, Unsupported, Version}
use Rattle.sg_lex.specs.Tokens.{tokens_of}
use Rattle.sg_block.specs.Arguments.{is_missing, is_unknown}
use Rattle.sg_block.specs.Forms.{Use, definition, use_form}
use Rattle.sg_block.specs.Tokens.{is_word, is_tick, is_front, token_size, line_of, text_at, line_at}
use Rattle.sg_block.specs.Values.{reached, replaced}
use Rattle.sg_block.specs.declared.form.Definition.{Definition}
use Rattle.sg_block.specs.declared.token.FileLine.{FileLine}
use Rattle.sg_expand.specs.declared.block.BlockDefinition.{BlockDefinition}
use Rattle.sg_expand.specs.declared.frame.Context.{Context}
use Rattle.sg_expand.specs.Bounded.{HoldsWithin, StaysWithin}
use Rattle.sg_expand.specs.Expansion.{ExpansionState, ExpansionOutcome, Goes, Stops, ExpansionStep, Ends, Moves, Faults, Includes, Uses, ExpansionJob, Tokens, RunsJob, charged, emitted_by, plain_text, variable_tokens, plain, text_of, retold, is_in_reach, use_size, used, use_of, word_or_use, definition_or_word, is_version, begins_version, begins_define, begins_include, begins_ignored, version_read, with_variable, define_read, names_no_file, named_file, included, include_read, front, step, with_out, with_file, file_tokens, lexed, first_context, first_state}
use Rattle.sg_expand.specs.Expansion.RunsJob.{ends, moves, faults, includes, included_stops, file_faults, file_too_long, file_unread, uses, use_stops, binds, value_stops, body_runs}
use Rattle.sg_expand.specs.Faults.{fault_at}
use Rattle.sg_expand.specs.Total.{counted}

-- so many tokens beside those that came out are no more than the total, which is within the limit
abbrev pub HoldsBound : ℕ → ExpansionState → Type 0
HoldsBound held s = (held + length s.out ≤ s.total) × (s.total ≤ 1048576)

abbrev pub KeepsBound : ExpansionState → ExpansionState → Type 0
KeepsBound s next = (held : ℕ) → HoldsBound held s → HoldsBound held next

abbrev pub StepKeeps : ExpansionState → ExpansionStep → Type 0
StepKeeps s Ends = Unit {0}
StepKeeps s (Moves fresh rest next) = KeepsBound s next
StepKeeps s (Faults kind line) = Unit {0}
StepKeeps s (Includes line name rest next) = KeepsBound s next
StepKeeps s (Uses block given rest next) = KeepsBound s next

abbrev OutcomeKeeps : ExpansionState → ExpansionOutcome → Type 0
OutcomeKeeps s (Goes last world) = KeepsBound s last
OutcomeKeeps s (Stops refusal names world) = Unit {0}

-- a total that only grows, within the limit
grown-keeps : (s next : ExpansionState) → next.out ≡ s.out → s.total ≤ next.total → next.total ≤ 1048576 → KeepsBound s next
grown-keeps s next out more within = λ held h. let size : length next.out ≡ length s.out = cc in let before : held + length s.out ≤ s.total = h.0 in (omega arith, within)

keeps-if : (s : ExpansionState) (b : Bool) (x y : ExpansionStep) → StepKeeps s x → StepKeeps s y → StepKeeps s (cond b x y)
keeps-if s true x y hx hy = hx
keeps-if s false x y hx hy = hy

keeps-charged : (size : ℕ) (line : FileLine) (s : ExpansionState) (later : ExpansionState → ExpansionStep) → (s.total + size ≤ 1048576 → StepKeeps s (later (record s { total = s.total + size }))) → StepKeeps s (charged size line s later)
keeps-charged size line s later h =
    ⊎_elim (λ (over : 1048576 < s.total + size). subst (λ (b : Bool). StepKeeps s (cond b (later (record s { total = s.total + size })) (Faults TooLong line))) (sym (lt-leb (s.total + size) 1048576 over)) tt)
    (λ (fits : s.total + size ≤ 1048576). subst (λ (b : Bool). StepKeeps s (cond b (later (record s { total = s.total + size })) (Faults TooLong line))) (sym (le-leb (s.total + size) 1048576 fits)) (h fits))
    (cases_lt 1048576 (s.total + size))

-- each token that is counted makes the total greater
counted-grows : (total next : ℕ) (tokens : List Token) → total ≤ 1048576 → counted total tokens ≡ Ok next → (total + length tokens ≤ next) × (next ≤ 1048576)
counted-grows total next [] within e = let same : total ≡ next = cc in (omega arith, omega arith)
counted-grows total next (token ∷ tokens) within e =
    ⊎_elim (λ (over : 1048576 < total + token_size token).
    let wrong : Err (line_of token) ≡ Ok next = sym (fork (lt-leb (total + token_size token) 1048576 over)) ∙ e in cc)
    (λ (fits : total + token_size token ≤ 1048576).
    let rest = counted-grows (total + token_size token) next tokens fits (sym (fork (le-leb (total + token_size token) 1048576 fits)) ∙ e) in (omega (arith, rest.0), rest.1))
    (cases_lt 1048576 (total + token_size token))
  where
    fork : {b : Bool} → nat_le (total + token_size token) 1048576 ≡ b → counted total (token ∷ tokens) ≡ cond b (counted (total + token_size token) tokens) (Err (line_of token))
    fork h = subst (λ (x : Bool). counted total (token ∷ tokens) ≡ cond x (counted (total + token_size token) tokens) (Err (line_of token))) h refl

emitted-keeps : (fresh : Bool) (rest tokens : List Token) (s : ExpansionState) (found : Result ℕ FileLine) → counted s.total tokens ≡ found → StepKeeps s (emitted_by fresh rest tokens s found)
emitted-keeps fresh rest tokens s (Ok total) e = λ held h.
    let grows = counted-grows s.total total tokens h.1 e in
    let before : held + length s.out ≤ s.total = h.0 in
    (omega (arith, grows.0, length-append s.out tokens), grows.1)
emitted-keeps fresh rest tokens s (Err line) e = tt

text-keeps : (tokens : List Token) (s : ExpansionState) (text : Option (List ℕ)) → StepKeeps s (plain_text tokens s text)
text-keeps tokens s None = tt
text-keeps tokens s (Some text) = emitted-keeps (passes_at tokens 0 is_front) (drop 1 tokens) (retold (slice_get tokens 0) text) s _ refl

variable-keeps : (tokens : List Token) (s : ExpansionState) (value : Option (List Token)) → StepKeeps s (variable_tokens tokens s value)
variable-keeps tokens s None = tt
variable-keeps tokens s (Some value) = emitted-keeps false (drop 1 tokens) value s _ refl

plain-keeps : (context : Context) (tokens : List Token) (s : ExpansionState) → StepKeeps s (plain context tokens s)
plain-keeps context tokens s =
    keeps-if s (passes_at tokens 0 is_tick) _ _ (variable-keeps tokens s (reached context.scope s.variables (text_at tokens 0))) (text-keeps tokens s (text_of context s tokens 0))

-- the total grows, and nothing came out
charge-keeps : (size : ℕ) (s next : ExpansionState) → next.out ≡ s.out → next.total ≡ s.total + size → s.total + size ≤ 1048576 → KeepsBound s next
charge-keeps size s next out total fits = grown-keeps s next out (omega arith) (omega arith)

used-keeps : (tokens : List Token) (block : BlockDefinition) (given : Use) (s : ExpansionState) → StepKeeps s (used tokens block given s)
used-keeps tokens block given s =
    keeps-if s (is_missing block.parameters given.0) (Faults MissingArgument (line_at tokens 0)) _ tt
    (keeps-if s (is_unknown block.parameters given.0) (Faults UnknownArgument (line_at tokens 0)) _ tt
    (keeps-charged (use_size tokens block) (line_at tokens 0) s (Uses block given.0 given.1)
    (λ fits. charge-keeps (use_size tokens block) s (record s { total = s.total + use_size tokens block }) refl refl fits)))

use-keeps : (context : Context) (tokens : List Token) (s : ExpansionState) (block : Option BlockDefinition) (given : Option Use) → StepKeeps s (use_of context tokens s block given)
use-keeps context tokens s None given = plain-keeps context tokens s
use-keeps context tokens s (Some block) None = plain-keeps context tokens s
use-keeps context tokens s (Some block) (Some given) =
    keeps-if s (is_in_reach context.limit block) (used tokens block given s) (plain context tokens s) (used-keeps tokens block given s) (plain-keeps context tokens s)

word-keeps : (context : Context) (fresh : Bool) (tokens : List Token) (s : ExpansionState) → StepKeeps s (word_or_use context fresh tokens s)
word-keeps context fresh tokens s =
    keeps-if s (fresh && passes_at tokens 0 is_word) (use_of context tokens s (map.get s.blocks (text_at tokens 0)) (use_form tokens)) (plain context tokens s)
    (use-keeps context tokens s (map.get s.blocks (text_at tokens 0)) (use_form tokens)) (plain-keeps context tokens s)

definition-keeps : (context : Context) (fresh : Bool) (tokens : List Token) (s : ExpansionState) (found : Option Definition) → StepKeeps s (definition_or_word context fresh tokens s found)
definition-keeps context fresh tokens s None = word-keeps context fresh tokens s
definition-keeps context fresh tokens s (Some defined) = λ held h. h

define-keeps : (fresh : Bool) (tokens : List Token) (s : ExpansionState) (text : Option (List ℕ)) → StepKeeps s (define_read fresh tokens s text)
define-keeps fresh tokens s None = tt
define-keeps fresh tokens s (Some text) =
    let value : List Token = retold (slice_get tokens 2) text in
    keeps-charged (length text + 1) (line_at tokens 0) s (λ (next : ExpansionState). Moves fresh (drop 3 tokens) (with_variable (text_at tokens 1) value next))
    (λ fits. charge-keeps (length text + 1) s (with_variable (text_at tokens 1) value (record s { total = s.total + (length text + 1) })) refl refl fits)

named-keeps : (tokens : List Token) (name : List ℕ) (s next : ExpansionState) → KeepsBound s next → StepKeeps s (named_file tokens name next)
named-keeps tokens name s next h =
    keeps-if s (nat_le 65536 (length next.names)) (Faults TooLong (line_at tokens 0)) _ tt
    (keeps-if s (names_no_file name) (Faults Unsupported (line_at tokens 0)) (Includes (line_at tokens 0) name (drop 2 tokens) next) tt h)

included-keeps : (tokens : List Token) (s : ExpansionState) (name : Option (List ℕ)) → StepKeeps s (included tokens s name)
included-keeps tokens s None = tt
included-keeps tokens s (Some name) =
    keeps-charged (length name + 1) (line_at tokens 0) s (named_file tokens name)
    (λ fits. named-keeps tokens name s (record s { total = s.total + (length name + 1) }) (charge-keeps (length name + 1) s (record s { total = s.total + (length name + 1) }) refl refl fits))

version-keeps : (fresh : Bool) (tokens : List Token) (s : ExpansionState) → StepKeeps s (version_read fresh tokens s)
version-keeps fresh tokens s = keeps-if s (is_version (text_at tokens 2) || bytes_eq (text_at tokens 2) (codes "current")) (Moves fresh (drop 3 tokens) s) (Faults Version (line_at tokens 0)) (λ held h. h) tt

include-keeps : (context : Context) (tokens : List Token) (s : ExpansionState) → StepKeeps s (include_read context tokens s)
include-keeps context tokens s =
    keeps-if s (nat_le 15 context.depth) (Faults IncludeDepth (line_at tokens 0)) (included tokens s (replaced context.scope s.variables 0 (text_at tokens 1))) tt
    (included-keeps tokens s (replaced context.scope s.variables 0 (text_at tokens 1)))

front-keeps : (context : Context) (fresh : Bool) (tokens : List Token) (s : ExpansionState) → StepKeeps s (front context fresh tokens s)
front-keeps context fresh tokens s =
    keeps-if s (length tokens == 0) Ends _ tt
    (keeps-if s (begins_version tokens) (version_read fresh tokens s) _ (version-keeps fresh tokens s)
    (keeps-if s (begins_define tokens) (define_read fresh tokens s (text_of context s tokens 2)) _ (define-keeps fresh tokens s (text_of context s tokens 2))
    (keeps-if s (begins_ignored tokens) (Moves fresh (drop 2 tokens) s) (definition_or_word context fresh tokens s (definition tokens)) (λ held h. h)
    (definition-keeps context fresh tokens s (definition tokens)))))

pub step-keeps : (context : Context) (fresh : Bool) (tokens : List Token) (s : ExpansionState) (asked : ExpansionStep) → step context fresh tokens s ≡ asked → StepKeeps s asked
step-keeps context fresh tokens s asked e =
    subst (StepKeeps s) e (keeps-if s (begins_include tokens) (include_read context tokens s) (front context fresh tokens s) (include-keeps context tokens s) (front-keeps context fresh tokens s))

-- the bytes of a file that are counted
pub file-keeps : (line : FileLine) (name text : List ℕ) (s : ExpansionState) (found : List Token) → file_tokens line s text ≡ Ok found → KeepsBound s (with_file name text s)
file-keeps line name text s found e =
    ⊎_elim (λ (over : 1048576 < s.total + (length text + 1)). let wrong : Err (fault_at TooLong line) ≡ Ok found = sym (fork (lt-leb (s.total + (length text + 1)) 1048576 over)) ∙ e in cc)
    (λ (fits : s.total + (length text + 1) ≤ 1048576). charge-keeps (length text + 1) s (with_file name text s) refl refl fits)
    (cases_lt 1048576 (s.total + (length text + 1)))
  where
    fork : {b : Bool} → nat_le (s.total + (length text + 1)) 1048576 ≡ b → file_tokens line s text ≡ cond b (lexed (length s.names) text (tokens_of (length s.names) text)) (Err (fault_at TooLong line))
    fork h = subst (λ (x : Bool). file_tokens line s text ≡ cond x (lexed (length s.names) text (tokens_of (length s.names) text)) (Err (fault_at TooLong line))) h refl

-- one after the other
keeps-then : (s next : ExpansionState) (o : ExpansionOutcome) → KeepsBound s next → OutcomeKeeps next o → OutcomeKeeps s o
keeps-then s next (Goes last world) a b = λ held h. b held (a held h)
keeps-then s next (Stops refusal names world) a b = tt

-- a value stands beside what came out before it
value-holds : (held : ℕ) (s : ExpansionState) → HoldsBound held s → HoldsBound (held + length s.out) (with_out [] s)
value-holds held s h = let before : held + length s.out ≤ s.total = h.0 in (omega arith, h.1)

behind-value : (s whole : ExpansionState) → KeepsBound (with_out [] s) whole → KeepsBound s (with_out s.out whole)
behind-value s whole k = λ held h.
    let after = k (held + length s.out) (value-holds held s h) in
    let sum : held + length s.out + length whole.out ≤ whole.total = after.0 in (omega arith, after.1)

runs-keep : (job : ExpansionJob) (s : ExpansionState) (world : WorldState) (o : ExpansionOutcome) → RunsJob job s world o → OutcomeKeeps s o
runs-keep _ _ _ _ (ends context fresh tokens state world e) = λ held h. h
runs-keep _ _ _ _ (moves context fresh tokens state world again rest next outcome e r) = keeps-then state next outcome (step-keeps context fresh tokens state (Moves again rest next) e) (runs-keep _ _ _ _ r)
runs-keep _ _ _ _ (faults context fresh tokens state world kind line e) = tt
runs-keep _ _ _ _ (includes context fresh tokens state world line name rest next read bytes found middle later outcome e reads taken r k) =
    keeps-then state next outcome (step-keeps context fresh tokens state (Includes line name rest next) e)
    (keeps-then next (with_file name bytes.items next) outcome (file-keeps line name bytes.items next found taken)
    (keeps-then (with_file name bytes.items next) middle outcome (runs-keep _ _ _ _ r) (runs-keep _ _ _ _ k)))
runs-keep _ _ _ _ (included_stops context fresh tokens state world line name rest next read bytes found refusal names later e reads taken r) = tt
runs-keep _ _ _ _ (file_faults context fresh tokens state world line name rest next read bytes fault e reads taken) = tt
runs-keep _ _ _ _ (file_too_long context fresh tokens state world line name rest next read e reads) = tt
runs-keep _ _ _ _ (file_unread context fresh tokens state world line name rest next read e reads) = tt
runs-keep _ _ _ _ (uses context fresh tokens state world block given rest next middle later outcome e r k) =
    keeps-then state next outcome (step-keeps context fresh tokens state (Uses block given rest next) e) (keeps-then next middle outcome (runs-keep _ _ _ _ r) (runs-keep _ _ _ _ k))
runs-keep _ _ _ _ (use_stops context fresh tokens state world block given rest next refusal names later e r) = tt
runs-keep _ _ _ _ (binds context serial body argument left bound state world whole later outcome r k) =
    keeps-then state (with_out state.out whole) outcome (behind-value state whole (runs-keep _ _ _ _ r)) (runs-keep _ _ _ _ k)
runs-keep _ _ _ _ (value_stops context serial body argument left bound state world refusal names later r) = tt
runs-keep _ _ _ _ (body_runs context serial body bound state world outcome r) = runs-keep _ _ _ _ r

within : (held : ℕ) (s : ExpansionState) → HoldsBound held s → HoldsWithin held s
within held s h = let before : held + length s.out ≤ s.total = h.0 in let most : s.total ≤ 1048576 = h.1 in omega arith

-- so the tokens held are within the limit all along
pub stays : (held : ℕ) (job : ExpansionJob) (s : ExpansionState) (world : WorldState) (o : ExpansionOutcome) (r : RunsJob job s world o) → HoldsBound held s → StaysWithin held job s world o r
stays held _ _ _ _ (ends context fresh tokens state world e) h = within held state h
stays held _ _ _ _ (moves context fresh tokens state world again rest next outcome e r) h =
    (within held state h, stays held _ _ _ _ r (step-keeps context fresh tokens state (Moves again rest next) e held h))
stays held _ _ _ _ (faults context fresh tokens state world kind line e) h = within held state h
stays held _ _ _ _ (includes context fresh tokens state world line name rest next read bytes found middle later outcome e reads taken r k) h =
    let begins = file-keeps line name bytes.items next found taken held (step-keeps context fresh tokens state (Includes line name rest next) e held h) in
    (within held state h, stays held _ _ _ _ r begins, stays held _ _ _ _ k (runs-keep _ _ _ _ r held begins))
stays held _ _ _ _ (included_stops context fresh tokens state world line name rest next read bytes found refusal names later e reads taken r) h =
    (within held state h, stays held _ _ _ _ r (file-keeps line name bytes.items next found taken held (step-keeps context fresh tokens state (Includes line name rest next) e held h)))
stays held _ _ _ _ (file_faults context fresh tokens state world line name rest next read bytes fault e reads taken) h = within held state h
stays held _ _ _ _ (file_too_long context fresh tokens state world line name rest next read e reads) h = within held state h
stays held _ _ _ _ (file_unread context fresh tokens state world line name rest next read e reads) h = within held state h
stays held _ _ _ _ (uses context fresh tokens state world block given rest next middle later outcome e r k) h =
    let begins = step-keeps context fresh tokens state (Uses block given rest next) e held h in
    (within held state h, stays held _ _ _ _ r begins, stays held _ _ _ _ k (runs-keep _ _ _ _ r held begins))
stays held _ _ _ _ (use_stops context fresh tokens state world block given rest next refusal names later e r) h =
    (within held state h, stays held _ _ _ _ r (step-keeps context fresh tokens state (Uses block given rest next) e held h))
stays held _ _ _ _ (binds context serial body argument left bound state world whole later outcome r k) h =
    let begins = value-holds held state h in
    let whole-holds = runs-keep _ _ _ _ r (held + length state.out) begins in
    let sum : held + length state.out + length whole.out ≤ whole.total = whole-holds.0 in
    (within held state h, stays (held + length state.out) _ _ _ _ r begins, stays (held + length whole.out) _ _ _ _ k (omega arith, whole-holds.1))
stays held _ _ _ _ (value_stops context serial body argument left bound state world refusal names later r) h =
    (within held state h, stays (held + length state.out) _ _ _ _ r (value-holds held state h))
stays held _ _ _ _ (body_runs context serial body bound state world outcome r) h = (within held state h, stays held _ _ _ _ r h)

pub stays-within : (tokens : List Token) (name : List ℕ) (world : WorldState) (outcome : ExpansionOutcome) (runs : RunsJob (Tokens first_context true tokens) (first_state name) world outcome)
    → StaysWithin 0 (Tokens first_context true tokens) (first_state name) world outcome runs
stays-within tokens name world outcome runs = stays 0 _ _ _ _ runs (omega arith, omega arith)
