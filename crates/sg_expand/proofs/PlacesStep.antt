-- What the front of a token list asks for stands in files that were read.
use Rattle.std.proofs.Common.{◌≡◌, ℕ, ◌+◌, ◌<◌, Bool, true, false, cond, nat_le, List, length, drop, Option, Some, None, Result, Ok, Err}
use Rattle.std.specs.Prelude.{slice_get, ◌&&◌, ◌||◌, ◌==◌, codes}
use Rattle.std.specs.Str.{bytes_eq}
use Rattle.std.specs.FinMap.{get}
use Rattle.sg_list.specs.Lists.{passes_at}
use Rattle.sg_lex.specs.declared.token.Token.{Token}
use Rattle.sg_lex.specs.declared.fault.ConfigKind.TheVariants.{IncludeDepth, MissingArgument, UnknownArgument, TooLong, Unsupported, Version}
use Rattle.sg_expand.specs.declared.block.BlockDefinition.{BlockDefinition}
use Rattle.sg_block.specs.declared.form.Definition.{Definition}
use Rattle.sg_expand.specs.declared.frame.Context.{Context}
use Rattle.sg_block.specs.declared.token.FileLine.{FileLine}
use Rattle.sg_block.specs.Arguments.{is_missing, is_unknown}
use Rattle.sg_expand.specs.Expansion.{ExpansionState, ExpansionStep, Ends, Moves, Faults, Includes, Uses, charged, emitted_by, emitted, text_of, plain_text, variable_tokens, plain, is_in_reach, use_size, used, use_of, word_or_use, definition_or_word, is_version, begins_version, begins_define, begins_include, begins_ignored, version_read, retold, with_variable, define_read, names_no_file, named_file, included, include_read, front, step}
use Rattle.sg_block.specs.Forms.{Use, definition, use_form}
use Rattle.sg_expand.specs.Total.{counted}
use Rattle.sg_block.specs.Tokens.{is_word, is_tick, is_front, text_at, line_at}
use Rattle.sg_block.specs.Values.{reached, replaced}
use Rattle.sg_expand.proofs.Places.{IfThere, Tabled, IsOfRead, AreOfRead, ArgumentsOf, BlockOf, DefinitionOf, UseOf, CountOf, each-drop, each-get, tabled-insert, line-of, definition-of, use_form-of, reached-of, counted-of, each-append}

-- a state of so many files
abbrev pub StateOf : ℕ → ExpansionState → Type 0
StateOf n state =
    (length state.names ≡ n) × Tabled (AreOfRead n) state.variables × Tabled (BlockOf n) state.blocks × AreOfRead n state.out

abbrev pub ContextOf : ℕ → Context → Type 0
ContextOf n context = Tabled (AreOfRead n) context.scope

abbrev pub StepOf : ℕ → ExpansionStep → Type 0
StepOf n Ends = Unit {0}
StepOf n (Moves fresh rest next) = AreOfRead n rest × StateOf n next
StepOf n (Faults kind line) = line.file < n
StepOf n (Includes line name rest next) = (line.file < n) × (AreOfRead n rest × StateOf n next)
StepOf n (Uses block given rest next) = BlockOf n block × (ArgumentsOf n given × (AreOfRead n rest × StateOf n next))

module _ (n : ℕ) (some : 0 < n) where
  choice-of : (b : Bool) (x y : ExpansionStep) → StepOf n x → StepOf n y → StepOf n (cond b x y)
  choice-of true x y h k = h
  choice-of false x y h k = k

  charged-of : (size : ℕ) (line : FileLine) (state : ExpansionState) (later : ExpansionState → ExpansionStep) → line.file < n → StepOf n (later (record state { total = state.total + size })) → StepOf n (charged size line state later)
  charged-of size line state later h k = choice-of (nat_le (state.total + size) 1048576) (later (record state { total = state.total + size })) (Faults TooLong line) k h

  emitted_by-of : (fresh : Bool) (rest tokens : List Token) (state : ExpansionState) (count : Result ℕ FileLine) → AreOfRead n rest → AreOfRead n tokens → StateOf n state → CountOf n count → StepOf n (emitted_by fresh rest tokens state count)
  emitted_by-of fresh rest tokens state (Ok total) r t s c = (r, (s.0, s.1, s.2, each-append (IsOfRead n) state.out tokens s.3 t))
  emitted_by-of fresh rest tokens state (Err line) r t s c = c

  emitted-of : (fresh : Bool) (rest tokens : List Token) (state : ExpansionState) → AreOfRead n rest → AreOfRead n tokens → StateOf n state → StepOf n (emitted fresh rest tokens state)
  emitted-of fresh rest tokens state r t s = emitted_by-of fresh rest tokens state (counted state.total tokens) r t s (counted-of n state.total tokens t)

  retold-of : (token : Option Token) (text : List ℕ) → IfThere (IsOfRead n) token → AreOfRead n (retold token text)
  retold-of None text h = tt
  retold-of (Some token) text h = (h, tt)

  plain_text-of : (tokens : List Token) (state : ExpansionState) (text : Option (List ℕ)) → AreOfRead n tokens → StateOf n state → StepOf n (plain_text tokens state text)
  plain_text-of tokens state None t s = line-of n some tokens 0 t
  plain_text-of tokens state (Some text) t s =
      emitted-of (passes_at tokens 0 is_front) (drop 1 tokens) (retold (slice_get tokens 0) text) state
      (each-drop (IsOfRead n) 1 tokens t) (retold-of (slice_get tokens 0) text (each-get (IsOfRead n) tokens 0 t)) s

  variable-of : (tokens : List Token) (state : ExpansionState) (value : Option (List Token)) → AreOfRead n tokens → StateOf n state → IfThere (AreOfRead n) value → StepOf n (variable_tokens tokens state value)
  variable-of tokens state None t s v = line-of n some tokens 0 t
  variable-of tokens state (Some value) t s v = emitted-of false (drop 1 tokens) value state (each-drop (IsOfRead n) 1 tokens t) v s

  plain-of : (context : Context) (tokens : List Token) (state : ExpansionState) → ContextOf n context → AreOfRead n tokens → StateOf n state → StepOf n (plain context tokens state)
  plain-of context tokens state c t s =
      choice-of (passes_at tokens 0 is_tick) (variable_tokens tokens state (reached context.scope state.variables (text_at tokens 0))) (plain_text tokens state (text_of context state tokens 0))
      (variable-of tokens state (reached context.scope state.variables (text_at tokens 0)) t s (reached-of n context.scope state.variables (text_at tokens 0) c s.1))
      (plain_text-of tokens state (text_of context state tokens 0) t s)

  used-of : (tokens : List Token) (block : BlockDefinition) (given : Use) (state : ExpansionState) → AreOfRead n tokens → BlockOf n block → UseOf n given → StateOf n state → StepOf n (used tokens block given state)
  used-of tokens block given state t b u s =
      let line : FileLine = line_at tokens 0 in
      let stands : (line_at tokens 0).file < n = line-of n some tokens 0 t in
      let later : ExpansionStep = charged (use_size tokens block) line state (Uses block given.0 given.1) in
      choice-of (is_missing block.parameters given.0) (Faults MissingArgument line) (cond (is_unknown block.parameters given.0) (Faults UnknownArgument line) later) stands
      (choice-of (is_unknown block.parameters given.0) (Faults UnknownArgument line) later stands
      (charged-of (use_size tokens block) line state (Uses block given.0 given.1) stands (b, (u.0, (u.1, s)))))

  use-of : (context : Context) (tokens : List Token) (state : ExpansionState) (block : Option BlockDefinition) (given : Option Use) → ContextOf n context → AreOfRead n tokens → StateOf n state → IfThere (BlockOf n) block → IfThere (UseOf n) given → StepOf n (use_of context tokens state block given)
  use-of context tokens state None given c t s b u = plain-of context tokens state c t s
  use-of context tokens state (Some block) None c t s b u = plain-of context tokens state c t s
  use-of context tokens state (Some block) (Some given) c t s b u =
      choice-of (is_in_reach context.limit block) (used tokens block given state) (plain context tokens state) (used-of tokens block given state t b u s) (plain-of context tokens state c t s)

  word-of : (context : Context) (fresh : Bool) (tokens : List Token) (state : ExpansionState) → ContextOf n context → AreOfRead n tokens → StateOf n state → StepOf n (word_or_use context fresh tokens state)
  word-of context fresh tokens state c t s =
      choice-of (fresh && passes_at tokens 0 is_word) (use_of context tokens state (get state.blocks (text_at tokens 0)) (use_form tokens)) (plain context tokens state)
      (use-of context tokens state (get state.blocks (text_at tokens 0)) (use_form tokens) c t s (s.2 (text_at tokens 0)) (use_form-of n tokens t))
      (plain-of context tokens state c t s)

  definition_or_word-of : (context : Context) (fresh : Bool) (tokens : List Token) (state : ExpansionState) (found : Option Definition) → ContextOf n context → AreOfRead n tokens → StateOf n state → IfThere (DefinitionOf n) found → StepOf n (definition_or_word context fresh tokens state found)
  definition_or_word-of context fresh tokens state None c t s d = word-of context fresh tokens state c t s
  definition_or_word-of context fresh tokens state (Some found) c t s d =
      let block : BlockDefinition = record { serial = state.serial; parameters = found.parameters; written = found.written; body = found.body } in
      (d.2, (s.0, s.1, tabled-insert (BlockOf n) state.blocks found.name block (d.0, d.1) s.2, s.3))

  version-of : (fresh : Bool) (tokens : List Token) (state : ExpansionState) → AreOfRead n tokens → StateOf n state → StepOf n (version_read fresh tokens state)
  version-of fresh tokens state t s =
      choice-of (is_version (text_at tokens 2) || bytes_eq (text_at tokens 2) (codes "current")) (Moves fresh (drop 3 tokens) state) (Faults Version (line_at tokens 0))
      (each-drop (IsOfRead n) 3 tokens t, s) (line-of n some tokens 0 t)

  define-of : (fresh : Bool) (tokens : List Token) (state : ExpansionState) (text : Option (List ℕ)) → AreOfRead n tokens → StateOf n state → StepOf n (define_read fresh tokens state text)
  define-of fresh tokens state None t s = line-of n some tokens 2 t
  define-of fresh tokens state (Some text) t s =
      charged-of (length text + 1) (line_at tokens 0) state (λ next. Moves fresh (drop 3 tokens) (with_variable (text_at tokens 1) (retold (slice_get tokens 2) text) next)) (line-of n some tokens 0 t)
      (each-drop (IsOfRead n) 3 tokens t, (s.0, tabled-insert (AreOfRead n) state.variables (text_at tokens 1) (retold (slice_get tokens 2) text) (retold-of (slice_get tokens 2) text (each-get (IsOfRead n) tokens 2 t)) s.1, s.2, s.3))

  named-of : (tokens : List Token) (name : List ℕ) (state : ExpansionState) → AreOfRead n tokens → StateOf n state → StepOf n (named_file tokens name state)
  named-of tokens name state t s =
      let line : FileLine = line_at tokens 0 in
      let stands : (line_at tokens 0).file < n = line-of n some tokens 0 t in
      let asks : ExpansionStep = Includes line name (drop 2 tokens) state in
      choice-of (nat_le 65536 (length state.names)) (Faults TooLong line) (cond (names_no_file name) (Faults Unsupported line) asks) stands
      (choice-of (names_no_file name) (Faults Unsupported line) asks stands (stands, (each-drop (IsOfRead n) 2 tokens t, s)))

  included-of : (tokens : List Token) (state : ExpansionState) (name : Option (List ℕ)) → AreOfRead n tokens → StateOf n state → StepOf n (included tokens state name)
  included-of tokens state None t s = line-of n some tokens 1 t
  included-of tokens state (Some name) t s =
      charged-of (length name + 1) (line_at tokens 0) state (named_file tokens name) (line-of n some tokens 0 t)
      (named-of tokens name (record state { total = state.total + (length name + 1) }) t s)

  include-of : (context : Context) (tokens : List Token) (state : ExpansionState) → AreOfRead n tokens → StateOf n state → StepOf n (include_read context tokens state)
  include-of context tokens state t s =
      let name : Option (List ℕ) = replaced context.scope state.variables 0 (text_at tokens 1) in
      choice-of (nat_le 15 context.depth) (Faults IncludeDepth (line_at tokens 0)) (included tokens state name) (line-of n some tokens 0 t) (included-of tokens state name t s)

  -- what is asked for stands in files that were read
  pub step-of : (context : Context) (fresh : Bool) (tokens : List Token) (state : ExpansionState) → ContextOf n context → AreOfRead n tokens → StateOf n state → StepOf n (step context fresh tokens state)
  step-of context fresh tokens state c t s =
      let word : ExpansionStep = definition_or_word context fresh tokens state (definition tokens) in
      let ignores : ExpansionStep = cond (begins_ignored tokens) (Moves fresh (drop 2 tokens) state) word in
      let text : Option (List ℕ) = text_of context state tokens 2 in
      let defines : ExpansionStep = cond (begins_define tokens) (define_read fresh tokens state text) ignores in
      let versions : ExpansionStep = cond (begins_version tokens) (version_read fresh tokens state) defines in
      choice-of (begins_include tokens) (include_read context tokens state) (front context fresh tokens state) (include-of context tokens state t s)
      (choice-of (length tokens == 0) Ends versions tt
      (choice-of (begins_version tokens) (version_read fresh tokens state) defines (version-of fresh tokens state t s)
      (choice-of (begins_define tokens) (define_read fresh tokens state text) ignores (define-of fresh tokens state text t s)
      (choice-of (begins_ignored tokens) (Moves fresh (drop 2 tokens) state) word (each-drop (IsOfRead n) 2 tokens t, s)
      (definition_or_word-of context fresh tokens state (definition tokens) c t s (definition-of n tokens t))))))
