-- Where the machine tells its files, a text comes to one outcome, but for readings that fail.
use Rattle.std.proofs.Common.{◌≡◌, ℕ, ◌<◌, ◌≤◌, Bool, true, false, List, [], ◌∷◌, ◌++◌, length, Option, Some, Result, Ok, Err, Vec, refl, ap, sym, ◌∙◌, subst, arith}
use Rattle.std.specs.FinMap as map
use Rattle.std.specs.declared.alloc.Global.{Global}
use Rattle.sg_outside.specs.World.{Files, WorldState, ReadsFile, OnlyReads, IsContent, IsBeyond}
use Rattle.sg_device.specs.declared.fault.FileRefusal.{FileRefusal}
use Rattle.sg_device.specs.declared.fault.FileRefusal.TheVariants.{Failed, TooLong as FileTooLong, NoMemory as FileNoMemory}
use Rattle.sg_lex.specs.declared.token.Token.{Token}
use Rattle.sg_lex.specs.declared.fault.ConfigFault.{ConfigFault}
use Rattle.sg_lex.specs.declared.fault.ConfigKind.TheVariants.{TooLong}
use Rattle.sg_block.specs.Arguments.{bindings}
use Rattle.sg_expand.specs.declared.frame.Context.{Context}
use Rattle.sg_expand.specs.Expansion.{ExpansionState, ExpansionOutcome, Goes, Stops, Faulty, Unread, ExpansionStep, Ends, Moves, Faults, Includes, Uses, step, ExpansionJob, Tokens, Binding, RunsJob, file_context, file_tokens, with_file, with_out, main_tokens, first_state, RunsTokens, RunsMain}
use Rattle.sg_expand.specs.Expansion.RunsJob.{ends, moves, faults, includes, included_stops, file_faults, file_too_long, file_unread, uses, use_stops, binds, value_stops, body_runs}
use Rattle.sg_expand.specs.Faults.{fault_at}
use Rattle.sg_expand.specs.One.{AreAlikeOutcomes}
use Rattle.sg_expand.specs.Pending.{Later, FollowsOutcome, RunsThen}
use Rattle.sg_expand.proofs.OneFront.{Inclusion, TakenThen, ReadThen, IncludesThen, StepThen, does-first}

-- the machine tells these files
abbrev Tells : Files → WorldState → Type 0
Tells files world = world.files ≡ Some files

abbrev TellsThen : Files → ExpansionOutcome → Type 0
TellsThen files (Goes last later) = Tells files later
TellsThen files (Stops refusal names later) = Unit {0}

reads-tell : (files : Files) (world read : WorldState) → OnlyReads world read → Tells files world → Tells files read
reads-tell files world read only told = ap (λ (w : WorldState). w.files) only.0 ∙ told

tells : (files : Files) (job : ExpansionJob) (s : ExpansionState) (world : WorldState) (o : ExpansionOutcome) → RunsJob job s world o → Tells files world → TellsThen files o
tells files _ _ _ _ (ends context fresh tokens state world e) told = told
tells files _ _ _ _ (moves context fresh tokens state world again rest next outcome e r) told = tells files _ _ _ _ r told
tells files _ _ _ _ (faults context fresh tokens state world kind line e) told = tt
tells files _ _ _ _ (includes context fresh tokens state world line name rest next read bytes found middle later outcome e reads taken r k) told =
    tells files _ _ _ _ k (tells files _ _ _ _ r (reads-tell files world read reads.0 told))
tells files _ _ _ _ (included_stops context fresh tokens state world line name rest next read bytes found refusal names later e reads taken r) told = tt
tells files _ _ _ _ (file_faults context fresh tokens state world line name rest next read bytes fault e reads taken) told = tt
tells files _ _ _ _ (file_too_long context fresh tokens state world line name rest next read e reads) told = tt
tells files _ _ _ _ (file_unread context fresh tokens state world line name rest next read e reads) told = tt
tells files _ _ _ _ (uses context fresh tokens state world block given rest next middle later outcome e r k) told = tells files _ _ _ _ k (tells files _ _ _ _ r told)
tells files _ _ _ _ (use_stops context fresh tokens state world block given rest next refusal names later e r) told = tt
tells files _ _ _ _ (binds context serial body argument left bound state world whole later outcome r k) told = tells files _ _ _ _ k (tells files _ _ _ _ r told)
tells files _ _ _ _ (value_stops context serial body argument left bound state world refusal names later r) told = tt
tells files _ _ _ _ (body_runs context serial body bound state world outcome r) told = tells files _ _ _ _ r told

-- a file that wasn't read ends alike with everything
unread : (first second : ExpansionOutcome) (name : List ℕ) (names : List (List ℕ)) (world : WorldState) → second ≡ Stops (Unread name) names world → AreAlikeOutcomes first second
unread (Goes last w) second name names world e = subst (AreAlikeOutcomes (Goes last w)) (sym e) tt
unread (Stops (Faulty fault) ns w) second name names world e = subst (AreAlikeOutcomes (Stops (Faulty fault) ns w)) (sym e) tt
unread (Stops (Unread other) ns w) second name names world e = tt

-- whatever comes of a state over these files ends as the first outcome
abbrev OnlyEnds : Files → Later → ExpansionState → ExpansionOutcome → Type 0
OnlyEnds files comes state first = (world : WorldState) → Tells files world → (second : ExpansionOutcome) → comes state world second → AreAlikeOutcomes first second

-- what the first outcome is behind its first part
abbrev ContinuesOne : Files → Later → ExpansionOutcome → ExpansionOutcome → Type 0
ContinuesOne files comes (Goes middle world) first = OnlyEnds files comes middle first
ContinuesOne files comes (Stops refusal names world) first = first ≡ Stops refusal names world

join : (files : Files) (comes : Later) (part between first second : ExpansionOutcome) → AreAlikeOutcomes part between → TellsThen files between → ContinuesOne files comes part first → FollowsOutcome between comes second → AreAlikeOutcomes first second
join files comes (Goes middle w) (Goes other w') first second same told continues f = continues w' told second (subst (λ s. comes s w' second) same f)
join files comes (Goes middle w) (Stops (Faulty fault) names w') first second same told continues f = absurd same
join files comes (Goes middle w) (Stops (Unread name) names w') first second same told continues f = unread first second name names w' f
join files comes (Stops (Faulty fault) names w) (Goes other w') first second same told continues f = absurd same
join files comes (Stops (Faulty fault) names w) (Stops (Faulty fault') names' w') first second same told continues f =
    subst (λ (x : ExpansionOutcome). AreAlikeOutcomes x second) (sym continues) (subst (AreAlikeOutcomes (Stops (Faulty fault) names w)) (sym f) same)
join files comes (Stops (Faulty fault) names w) (Stops (Unread name) names' w') first second same told continues f = unread first second name names' w' f
join files comes (Stops (Unread name) names w) between first second same told continues f = subst (λ (x : ExpansionOutcome). AreAlikeOutcomes x second) (sym continues) tt

-- a job that ends alike, and what follows it
then-alike : (files : Files) (job : ExpansionJob) (comes : Later) (state : ExpansionState) (part first : ExpansionOutcome) → OnlyEnds files (RunsJob job) state part → ContinuesOne files comes part first
    → (world : WorldState) → Tells files world → (second : ExpansionOutcome) → RunsThen job state world comes second → AreAlikeOutcomes first second
then-alike files job comes state part first begins continues world told second h =
    join files comes part h.0 first second (begins world told h.0 h.1.0) (tells files _ _ _ _ h.1.0 told) continues h.1.1

-- what the second derivation does where the first was asked for a step
again : (context : Context) (fresh : Bool) (tokens : List Token) (state : ExpansionState) (found : ExpansionStep) (world : WorldState) (second : ExpansionOutcome) → step context fresh tokens state ≡ found → RunsJob (Tokens context fresh tokens) state world second → StepThen context fresh state world found second
again context fresh tokens state found world second e d = subst (λ x. StepThen context fresh state world x second) e (does-first _ _ _ _ d)

-- the content of a file that is told
content-is : (files : Files) (world : WorldState) (name bytes : List ℕ) → Tells files world → IsContent world.files name bytes → files name ≡ Some bytes
content-is files world name bytes told h = subst (λ (x : Option Files). IsContent x name bytes) told h

beyond-is : (files : Files) (world : WorldState) (name : List ℕ) (limit : ℕ) → Tells files world → IsBeyond world.files name limit → (bytes : List ℕ) × ((files name ≡ Some bytes) × (limit < length bytes))
beyond-is files world name limit told h = subst (λ (x : Option Files). IsBeyond x name limit) told h

same-content : (files : Files) (name a b : List ℕ) → files name ≡ Some a → files name ≡ Some b → b ≡ a
same-content files name a b p q = cc

-- each reading of a file that was read ends alike, where what follows its text does
read-alike : (files : Files) (at : Inclusion) (first : ExpansionOutcome) (text : List ℕ) → files at.name ≡ Some text → length text ≤ 1048576
    → ((read : WorldState) → Tells files read → (second : ExpansionOutcome) → TakenThen at read text (file_tokens at.line at.next text) second → AreAlikeOutcomes first second)
    → (world : WorldState) → Tells files world → (second : ExpansionOutcome) → IncludesThen at world second → AreAlikeOutcomes first second
read-alike files at first text is short follows world told second h = by h.1.0 h.1.1.0 h.1.1.1
  where
    by : (answer : Result (Vec ℕ Global) FileRefusal) → ReadsFile world h.0 at.name 1048576 answer → ReadThen at h.0 answer second → AreAlikeOutcomes first second
    by (Ok bytes) reads then =
        let same : bytes.items ≡ text = same-content files at.name text bytes.items is (content-is files world at.name bytes.items told reads.1) in
        follows h.0 (reads-tell files world h.0 reads.0 told) second (subst (λ (x : List ℕ). TakenThen at h.0 x (file_tokens at.line at.next x) second) same then)
    by (Err Failed) reads then = unread first second at.name at.next.names h.0 then
    by (Err FileTooLong) reads then =
        let long = beyond-is files world at.name 1048576 told reads.1 in
        let same : long.0 ≡ text = same-content files at.name text long.0 is long.1.0 in
        let size : length long.0 ≡ length text = ap length same in
        let over : 1048576 < length long.0 = long.1.1 in
        absurd (omega arith)
    by (Err FileNoMemory) reads then = absurd then

-- each reading of a file that was too long ends alike
too-long-alike : (files : Files) (at : Inclusion) (text : List ℕ) (read : WorldState) → files at.name ≡ Some text → 1048576 < length text
    → (world : WorldState) → Tells files world → (second : ExpansionOutcome) → IncludesThen at world second → AreAlikeOutcomes (Stops (Faulty (fault_at TooLong at.line)) at.next.names read) second
too-long-alike files at text read is over world told second h = by h.1.0 h.1.1.0 h.1.1.1
  where
    first : ExpansionOutcome
    first = Stops (Faulty (fault_at TooLong at.line)) at.next.names read

    by : (answer : Result (Vec ℕ Global) FileRefusal) → ReadsFile world h.0 at.name 1048576 answer → ReadThen at h.0 answer second → AreAlikeOutcomes first second
    by (Ok bytes) reads then =
        let same : bytes.items ≡ text = same-content files at.name text bytes.items is (content-is files world at.name bytes.items told reads.1) in
        let size : length bytes.items ≡ length text = ap length same in
        let short : length bytes.items ≤ 1048576 = reads.2 in
        absurd (omega arith)
    by (Err Failed) reads then = unread first second at.name at.next.names h.0 then
    by (Err FileTooLong) reads then = subst (AreAlikeOutcomes first) (sym then) (refl, refl)
    by (Err FileNoMemory) reads then = absurd then

-- where a first derivation ends, each other ends alike
run-alike : (files : Files) (job : ExpansionJob) (state : ExpansionState) (world : WorldState) (first : ExpansionOutcome) → RunsJob job state world first → Tells files world → OnlyEnds files (RunsJob job) state first
run-alike files _ _ _ _ (ends context fresh tokens state world e) at w told second d =
    subst (AreAlikeOutcomes (Goes state world)) (sym (again context fresh tokens state Ends w second e d)) refl
run-alike files _ _ _ _ (moves context fresh tokens state world onward rest next first e r) at w told second d =
    run-alike files _ _ _ _ r at w told second (again context fresh tokens state (Moves onward rest next) w second e d)
run-alike files _ _ _ _ (faults context fresh tokens state world kind line e) at w told second d =
    subst (AreAlikeOutcomes (Stops (Faulty (fault_at kind line)) state.names world)) (sym (again context fresh tokens state (Faults kind line) w second e d)) (refl, refl)
run-alike files _ _ _ _ (includes context fresh tokens state world line name rest next read bytes found middle later first e reads taken r k) at w told second d =
    let place : Inclusion = record { context = context; fresh = fresh; line = line; name = name; rest = rest; next = next } in
    let inside : Tells files read = reads-tell files world read reads.0 at in
    read-alike files place first bytes.items (content-is files world name bytes.items at reads.1) reads.2
    (λ w' told' second' h. then-alike files (Tokens (file_context context) true found) (RunsJob (Tokens context fresh rest)) (with_file name bytes.items next) (Goes middle later) first
    (run-alike files _ _ _ _ r inside) (run-alike files _ _ _ _ k (tells files _ _ _ _ r inside)) w' told' second' (subst (λ x. TakenThen place w' bytes.items x second') taken h))
    w told second (again context fresh tokens state (Includes line name rest next) w second e d)
run-alike files _ _ _ _ (included_stops context fresh tokens state world line name rest next read bytes found refusal names later e reads taken r) at w told second d =
    let place : Inclusion = record { context = context; fresh = fresh; line = line; name = name; rest = rest; next = next } in
    let inside : Tells files read = reads-tell files world read reads.0 at in
    read-alike files place (Stops refusal names later) bytes.items (content-is files world name bytes.items at reads.1) reads.2
    (λ w' told' second' h. then-alike files (Tokens (file_context context) true found) (RunsJob (Tokens context fresh rest)) (with_file name bytes.items next) (Stops refusal names later) (Stops refusal names later)
    (run-alike files _ _ _ _ r inside) refl w' told' second' (subst (λ x. TakenThen place w' bytes.items x second') taken h))
    w told second (again context fresh tokens state (Includes line name rest next) w second e d)
run-alike files _ _ _ _ (file_faults context fresh tokens state world line name rest next read bytes fault e reads taken) at w told second d =
    let place : Inclusion = record { context = context; fresh = fresh; line = line; name = name; rest = rest; next = next } in
    let first : ExpansionOutcome = Stops (Faulty fault) (next.names ++ name ∷ []) read in
    read-alike files place first bytes.items (content-is files world name bytes.items at reads.1) reads.2
    (λ w' told' second' h. let is : second' ≡ Stops (Faulty fault) (next.names ++ name ∷ []) w' = subst (λ x. TakenThen place w' bytes.items x second') taken h in subst (AreAlikeOutcomes first) (sym is) (refl, refl))
    w told second (again context fresh tokens state (Includes line name rest next) w second e d)
run-alike files _ _ _ _ (file_too_long context fresh tokens state world line name rest next read e reads) at w told second d =
    let long = beyond-is files world name 1048576 at reads.1 in
    too-long-alike files (record { context = context; fresh = fresh; line = line; name = name; rest = rest; next = next }) long.0 read long.1.0 long.1.1
    w told second (again context fresh tokens state (Includes line name rest next) w second e d)
run-alike files _ _ _ _ (file_unread context fresh tokens state world line name rest next read e reads) at w told second d = tt
run-alike files _ _ _ _ (uses context fresh tokens state world block given rest next middle later first e r k) at w told second d =
    then-alike files (Binding context block.serial block.body (bindings block.parameters given) map.empty) (RunsJob (Tokens context false rest)) next (Goes middle later) first
    (run-alike files _ _ _ _ r at) (run-alike files _ _ _ _ k (tells files _ _ _ _ r at)) w told second (again context fresh tokens state (Uses block given rest next) w second e d)
run-alike files _ _ _ _ (use_stops context fresh tokens state world block given rest next refusal names later e r) at w told second d =
    then-alike files (Binding context block.serial block.body (bindings block.parameters given) map.empty) (RunsJob (Tokens context false rest)) next (Stops refusal names later) (Stops refusal names later)
    (run-alike files _ _ _ _ r at) refl w told second (again context fresh tokens state (Uses block given rest next) w second e d)
run-alike files _ _ _ _ (binds context serial body argument left bound state world whole later first r k) at w told second d =
    then-alike files (Tokens context false argument.tokens) (λ s. RunsJob (Binding context serial body left (map.insert bound argument.name s.out)) (with_out state.out s)) (with_out [] state) (Goes whole later) first
    (run-alike files _ _ _ _ r at) (run-alike files _ _ _ _ k (tells files _ _ _ _ r at)) w told second (does-first _ _ _ _ d)
run-alike files _ _ _ _ (value_stops context serial body argument left bound state world refusal names later r) at w told second d =
    then-alike files (Tokens context false argument.tokens) (λ s. RunsJob (Binding context serial body left (map.insert bound argument.name s.out)) (with_out state.out s)) (with_out [] state) (Stops refusal names later) (Stops refusal names later)
    (run-alike files _ _ _ _ r at) refl w told second (does-first _ _ _ _ d)
run-alike files _ _ _ _ (body_runs context serial body bound state world first r) at w told second d = run-alike files _ _ _ _ r at w told second (does-first _ _ _ _ d)

tokens-alike : (files : Files) (found : Result (List Token) ConfigFault) (state : ExpansionState) (world again : WorldState) (one other : ExpansionOutcome) → Tells files world → Tells files again → RunsTokens found state world one → RunsTokens found state again other → AreAlikeOutcomes one other
tokens-alike files (Ok tokens) state world again one other told told' first second = run-alike files _ _ _ _ first told again told' other second
tokens-alike files (Err fault) state world again one other told told' first second =
    subst (λ (x : ExpansionOutcome). AreAlikeOutcomes x other) (sym first) (subst (AreAlikeOutcomes (Stops (Faulty fault) state.names world)) (sym second) (refl, refl))

-- a text comes to one outcome
pub one-outcome : (name text : List ℕ) (files : Files) (world again : WorldState) (one other : ExpansionOutcome) → world.files ≡ Some files → again.files ≡ Some files → RunsMain name text world one → RunsMain name text again other → AreAlikeOutcomes one other
one-outcome name text files world again one other told told' first second = tokens-alike files (main_tokens text) (first_state name) world again one other told told' first second
