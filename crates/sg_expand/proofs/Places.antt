-- The files that tokens stand in are among those that were read.
use Rattle.std.proofs.Common.{ℕ, zero, suc, ◌+◌, ◌<◌, Bool, true, false, cond, nat_le, List, [], ◌∷◌, ◌++◌, length, drop, Option, Some, None, Result, Ok, Err, sym, subst}
use Rattle.std.specs.Prelude.{slice_get, ◌&&◌, ◌==◌, nat_lt}
use Rattle.std.specs.Option.{option_map}
use Rattle.std.specs.List.{prefix_len, AllByRecursion}
use Rattle.std.specs.Ordering.{nat_cmp, eq_by_cmp}
use Rattle.std.specs.Cmp.Lexicographic.{slice_cmp, nat_list_cmp_total}
use Rattle.std.specs.FinMap.{FinMap, get, insert, empty, get-insert, get-empty}
use Rattle.sg_list.specs.Lists.{passes_at}
use Rattle.sg_lex.specs.declared.token.Token.{Token}
use Rattle.sg_block.specs.declared.argument.Argument.{Argument}
use Rattle.sg_expand.specs.declared.block.BlockDefinition.{BlockDefinition}
use Rattle.sg_block.specs.declared.form.Definition.{Definition}
use Rattle.sg_block.specs.declared.token.FileLine.{FileLine}
use Rattle.sg_block.specs.Arguments.{has_name, last_named, defaults, bindings}
use Rattle.sg_block.specs.Brackets.{Parted, bracket, open_behind, inner_behind, parted_behind, inside, bracketed}
use Rattle.sg_block.specs.Forms.{Next, Use, separated, argument_of, next_argument, and_others, arguments_within, arguments, begins_definition, with_body, defined, definition, given_in, use_form}
use Rattle.sg_expand.specs.Total.{counted}
use Rattle.sg_block.specs.Tokens.{is_word, is_symbol, token_size, line_of, text_at, line_at}
use Rattle.sg_block.specs.Trimmed.{trimmed}
use Rattle.sg_block.specs.Values.{Values, first_of, reached}

-- of the one that there is, and of each that a table has
abbrev pub IfThere : {A : Type 0} → (A → Type 0) → Option A → Type 0
IfThere P None = Unit {0}
IfThere P (Some x) = P x

abbrev pub Tabled : {A : Type 0} → (A → Type 0) → FinMap (slice_cmp nat_cmp) A → Type 0
Tabled P table = (name : List ℕ) → IfThere P (get table name)

module _ {A : Type 0} (P : A → Type 0) where
  pub each-drop : (k : ℕ) (xs : List A) → AllByRecursion P xs → AllByRecursion P (drop k xs)
  each-drop zero xs h = h
  each-drop (suc k) [] h = tt
  each-drop (suc k) (x ∷ xs) h = each-drop k xs h.1

  pub each-append : (xs ys : List A) → AllByRecursion P xs → AllByRecursion P ys → AllByRecursion P (xs ++ ys)
  each-append [] ys h k = k
  each-append (x ∷ xs) ys h k = (h.0, each-append xs ys h.1 k)

  each-if : (b : Bool) (xs ys : List A) → AllByRecursion P xs → AllByRecursion P ys → AllByRecursion P (cond b xs ys)
  each-if true xs ys h k = h
  each-if false xs ys h k = k

  pub each-get : (xs : List A) (k : ℕ) → AllByRecursion P xs → IfThere P (slice_get xs k)
  each-get [] k h = tt
  each-get (x ∷ xs) zero h = h.0
  each-get (x ∷ xs) (suc k) h = each-get xs k h.1

  there-if : (b : Bool) (x y : Option A) → IfThere P x → IfThere P y → IfThere P (cond b x y)
  there-if true x y h k = h
  there-if false x y h k = k

  pub tabled-empty : Tabled P empty
  tabled-empty name = subst (IfThere P) (sym (get-empty (slice_cmp nat_cmp) name)) tt

  pub tabled-insert : (table : FinMap (slice_cmp nat_cmp) A) (name : List ℕ) (x : A) → P x → Tabled P table → Tabled P (insert table name x)
  tabled-insert table name x h k other =
      subst (IfThere P) (sym (get-insert nat_list_cmp_total table name x other))
      (there-if (eq_by_cmp (slice_cmp nat_cmp) other name) (Some x) (get table other) h (k other))

module _ {A : Type 0} (P Q : A → Type 0) (weaker : (x : A) → P x → Q x) where
  pub each-weaker : (xs : List A) → AllByRecursion P xs → AllByRecursion Q xs
  each-weaker [] h = tt
  each-weaker (x ∷ xs) h = (weaker x h.0, each-weaker xs h.1)

  pub there-weaker : (x : Option A) → IfThere P x → IfThere Q x
  there-weaker None h = tt
  there-weaker (Some x) h = weaker x h

  pub tabled-weaker : (table : FinMap (slice_cmp nat_cmp) A) → Tabled P table → Tabled Q table
  tabled-weaker table h name = there-weaker (get table name) (h name)

-- what stands in files of which there are so many
abbrev pub IsOfRead : ℕ → Token → Type 0
IsOfRead n token = token.file < n

abbrev pub AreOfRead : ℕ → List Token → Type 0
AreOfRead n tokens = AllByRecursion (IsOfRead n) tokens

abbrev pub ArgumentOf : ℕ → Argument → Type 0
ArgumentOf n argument = AreOfRead n argument.tokens

abbrev pub ArgumentsOf : ℕ → List Argument → Type 0
ArgumentsOf n arguments = AllByRecursion (ArgumentOf n) arguments

abbrev pub BlockOf : ℕ → BlockDefinition → Type 0
BlockOf n block = ArgumentsOf n block.parameters × AreOfRead n block.body

abbrev pub DefinitionOf : ℕ → Definition → Type 0
DefinitionOf n defined = ArgumentsOf n defined.parameters × AreOfRead n defined.body × AreOfRead n defined.behind

abbrev pub UseOf : ℕ → Use → Type 0
UseOf n given = ArgumentsOf n given.0 × AreOfRead n given.1

abbrev PartedOf : ℕ → Parted → Type 0
PartedOf n parted = AreOfRead n parted.0 × AreOfRead n parted.1

abbrev NextOf : ℕ → Next → Type 0
NextOf n next = ArgumentOf n next.0 × AreOfRead n next.1

abbrev pub CountOf : ℕ → Result ℕ FileLine → Type 0
CountOf n (Ok total) = Unit {0}
CountOf n (Err line) = line.file < n

pub line-of : (n : ℕ) → 0 < n → (tokens : List Token) (place : ℕ) → AreOfRead n tokens → (line_at tokens place).file < n
line-of n some [] place h = some
line-of n some (token ∷ tokens) zero h = h.0
line-of n some (token ∷ tokens) (suc place) h = line-of n some tokens place h.1

module _ (n : ℕ) where
  -- brackets
  inner-of : (token : Token) (found : Option Parted) → IsOfRead n token → IfThere (PartedOf n) found → IfThere (PartedOf n) (option_map (inner_behind token) found)
  inner-of token None t h = tt
  inner-of token (Some parted) t h = ((t, h.0), h.1)

  parted-of : (token : Token) (tokens : List Token) (opens : Option (List ℕ)) → IsOfRead n token → AreOfRead n tokens → ((later : List ℕ) → IfThere (PartedOf n) (inside later tokens)) → IfThere (PartedOf n) (parted_behind token tokens opens (λ later. inside later tokens))
  parted-of token tokens None t h later = tt
  parted-of token tokens (Some []) t h later = (tt, h)
  parted-of token tokens (Some (c ∷ others)) t h later = inner-of token (inside (c ∷ others) tokens) t (later (c ∷ others))

  inside-of : (opens : List ℕ) (tokens : List Token) → AreOfRead n tokens → IfThere (PartedOf n) (inside opens tokens)
  inside-of opens [] h = tt
  inside-of opens (token ∷ tokens) h = parted-of token tokens (open_behind (bracket token) opens) h.0 h.1 (λ later. inside-of later tokens h.1)

  bracketed-of : (opening closing : ℕ) (tokens : List Token) (place : ℕ) → AreOfRead n tokens → IfThere (PartedOf n) (bracketed opening closing tokens place)
  bracketed-of opening closing tokens place h =
      there-if (PartedOf n) (passes_at tokens place (is_symbol opening)) (inside (closing ∷ []) (drop (place + 1) tokens)) None
      (inside-of (closing ∷ []) (drop (place + 1) tokens) (each-drop (IsOfRead n) (place + 1) tokens h)) tt

  -- arguments
  separated-of : (tokens : List Token) → AreOfRead n tokens → IfThere (AreOfRead n) (separated tokens)
  separated-of tokens h =
      there-if (AreOfRead n) (nat_lt 0 (prefix_len (is_symbol 44) tokens) && (prefix_len (is_symbol 44) tokens == length tokens)) None (Some (drop (prefix_len (is_symbol 44) tokens) tokens)) tt
      (each-drop (IsOfRead n) (prefix_len (is_symbol 44) tokens) tokens h)

  rest-of : (argument : Argument) (rest : Option (List Token)) → ArgumentOf n argument → IfThere (AreOfRead n) rest → IfThere (NextOf n) (option_map (λ tokens. (argument, tokens)) rest)
  rest-of argument None a h = tt
  rest-of argument (Some rest) a h = (a, h)

  argument-of : (name : List ℕ) (found : Option Parted) → IfThere (PartedOf n) found → IfThere (NextOf n) (argument_of name found)
  argument-of name None h = tt
  argument-of name (Some parted) h = let argument : Argument = record { name = name; tokens = parted.0 } in rest-of argument (separated parted.1) h.0 (separated-of parted.1 h.1)

  next-of : (tokens : List Token) → AreOfRead n tokens → IfThere (NextOf n) (next_argument tokens)
  next-of tokens h =
      there-if (NextOf n) (passes_at tokens 0 is_word) (argument_of (text_at tokens 0) (bracketed 40 41 tokens 1)) None
      (argument-of (text_at tokens 0) (bracketed 40 41 tokens 1) (bracketed-of 40 41 tokens 1 h)) tt

  cons-of : (argument : Argument) (others : Option (List Argument)) → ArgumentOf n argument → IfThere (ArgumentsOf n) others → IfThere (ArgumentsOf n) (option_map (λ found. argument ∷ found) others)
  cons-of argument None a h = tt
  cons-of argument (Some others) a h = (a, h)

  others-of : (next : Option Next) (later : List Token → Option (List Argument)) → IfThere (NextOf n) next → ((rest : List Token) → AreOfRead n rest → IfThere (ArgumentsOf n) (later rest)) → IfThere (ArgumentsOf n) (and_others next later)
  others-of None later h k = tt
  others-of (Some next) later h k = cons-of next.0 (later next.1) h.0 (k next.1 h.1)

  within-of : (most : ℕ) (tokens : List Token) → AreOfRead n tokens → IfThere (ArgumentsOf n) (arguments_within most tokens)
  within-of most [] h = tt
  within-of zero (token ∷ tokens) h = tt
  within-of (suc most) (token ∷ tokens) h = others-of (next_argument (token ∷ tokens)) (arguments_within most) (next-of (token ∷ tokens) h) (λ rest k. within-of most rest k)

  arguments-of : (tokens : List Token) → AreOfRead n tokens → IfThere (ArgumentsOf n) (arguments tokens)
  arguments-of tokens h = within-of (length tokens) tokens h

  last_named-of : (given : List Argument) → ArgumentsOf n given → ArgumentsOf n (last_named given)
  last_named-of [] h = tt
  last_named-of (argument ∷ others) h =
      each-if (ArgumentOf n) (has_name argument.name others) (last_named others) (argument ∷ last_named others) (last_named-of others h.1) (h.0, last_named-of others h.1)

  defaults-of : (parameters given : List Argument) → ArgumentsOf n parameters → ArgumentsOf n (defaults parameters given)
  defaults-of [] given h = tt
  defaults-of (parameter ∷ others) given h =
      each-if (ArgumentOf n) (has_name parameter.name given) (defaults others given) (parameter ∷ defaults others given) (defaults-of others given h.1) (h.0, defaults-of others given h.1)

  pub bindings-of : (parameters given : List Argument) → ArgumentsOf n parameters → ArgumentsOf n given → ArgumentsOf n (bindings parameters given)
  bindings-of parameters given h k = each-append (ArgumentOf n) (last_named given) (defaults parameters given) (last_named-of given k) (defaults-of parameters given h)

  -- definitions and uses
  with_body-of : (name : List ℕ) (written : List Token) (given : Option (List Argument)) (body : Option Parted) → IfThere (ArgumentsOf n) given → IfThere (PartedOf n) body → IfThere (DefinitionOf n) (with_body name written given body)
  with_body-of name written given None g b = tt
  with_body-of name written None (Some body) g b = tt
  with_body-of name written (Some given) (Some body) g b =
      let made : Definition = record { name = name; parameters = last_named given; written = written; body = body.0; behind = drop 1 body.1 } in
      there-if (DefinitionOf n) (passes_at body.1 0 (is_symbol 59)) (Some made) None (last_named-of given g, b.0, each-drop (IsOfRead n) 1 body.1 b.1) tt

  defined-of : (name : List ℕ) (given : Option Parted) → IfThere (PartedOf n) given → IfThere (DefinitionOf n) (defined name given)
  defined-of name None h = tt
  defined-of name (Some given) h = with_body-of name given.0 (arguments given.0) (bracketed 123 125 given.1 0) (arguments-of given.0 h.0) (bracketed-of 123 125 given.1 0 h.1)

  pub definition-of : (tokens : List Token) → AreOfRead n tokens → IfThere (DefinitionOf n) (definition tokens)
  definition-of tokens h =
      there-if (DefinitionOf n) (begins_definition tokens) (defined (text_at tokens 2) (bracketed 40 41 tokens 3)) None
      (defined-of (text_at tokens 2) (bracketed 40 41 tokens 3) (bracketed-of 40 41 tokens 3 h)) tt

  pair-of : (rest : List Token) (given : Option (List Argument)) → AreOfRead n rest → IfThere (ArgumentsOf n) given → IfThere (UseOf n) (option_map (λ found. (found, rest)) given)
  pair-of rest None h k = tt
  pair-of rest (Some given) h k = (k, h)

  given-of : (found : Option Parted) → IfThere (PartedOf n) found → IfThere (UseOf n) (given_in found)
  given-of None h = tt
  given-of (Some parted) h = pair-of parted.1 (arguments parted.0) h.1 (arguments-of parted.0 h.0)

  pub use_form-of : (tokens : List Token) → AreOfRead n tokens → IfThere (UseOf n) (use_form tokens)
  use_form-of tokens h = given-of (bracketed 40 41 tokens 1) (bracketed-of 40 41 tokens 1 h)

  pub trimmed-of : (body : List Token) → AreOfRead n body → AreOfRead n (trimmed body)
  trimmed-of [] h = tt
  trimmed-of (token ∷ []) h = each-if (IsOfRead n) (is_symbol 59 token) [] (token ∷ []) tt h
  trimmed-of (token ∷ next ∷ tokens) h = (h.0, trimmed-of (next ∷ tokens) h.1)

  -- values
  first-of : (x y : Option (List Token)) → IfThere (AreOfRead n) x → IfThere (AreOfRead n) y → IfThere (AreOfRead n) (first_of x y)
  first-of None y h k = k
  first-of (Some x) y h k = h

  pub reached-of : (scope variables : Values) (name : List ℕ) → Tabled (AreOfRead n) scope → Tabled (AreOfRead n) variables → IfThere (AreOfRead n) (reached scope variables name)
  reached-of scope variables name h k = first-of (get scope name) (get variables name) (h name) (k name)

  -- tokens that come out
  count-if : (b : Bool) (x y : Result ℕ FileLine) → CountOf n x → CountOf n y → CountOf n (cond b x y)
  count-if true x y h k = h
  count-if false x y h k = k

  pub counted-of : (total : ℕ) (tokens : List Token) → AreOfRead n tokens → CountOf n (counted total tokens)
  counted-of total [] h = tt
  counted-of total (token ∷ tokens) h =
      count-if (nat_le (total + token_size token) 1048576) (counted (total + token_size token) tokens) (Err (line_of token)) (counted-of (total + token_size token) tokens h.1) h.0
