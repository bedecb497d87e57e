-- What may have been meant by the token of a fault.
use Rattle.std.specs.Prelude.{◌≡◌, ℕ, List, slice_get, if◌then◌else◌, Option, Some, None, Bool, true, false}
use Rattle.sg_lex.specs.declared.fault.ConfigKind.{ConfigKind}
use Rattle.sg_lex.specs.declared.fault.ConfigKind.TheVariants.{Unexpected, UnknownName, Unsupported}
use Rattle.sg_lex.specs.declared.token.Token.{Token}
use Rattle.sg_parse_base.specs.Tokens.{is_word}
use Rattle.sg_hint.specs.Nearest.{IsMeant}
use Rattle.sg_hint.specs.Nearer.{meant_of}
use Rattle.sg_hint.specs.Names.{IsNameMeant, name_meant}
use Rattle.sg_hint.specs.Words.{fitting_words}
use Rattle.sg_hint.specs.Contexts.{context_of}
use Rattle.sg_hint.specs.declared.context.HintContext.{HintContext}

-- the one of these words that was meant by a word
abbrev pub IsListedFor : List (List ℕ) → Bool → List ℕ → Option (List ℕ) → Type 0
IsListedFor words false written meant = meant ≡ None
IsListedFor words true written meant = IsMeant written words meant

abbrev pub IsWordMeant : List (List ℕ) → Option Token → Option (List ℕ) → Type 0
IsWordMeant words None meant = meant ≡ None
IsWordMeant words (Some token) meant = IsListedFor words (is_word token) token.text meant

-- An unknown name may be that of a statement, and what isn't supported or expected a word that fits its place.
abbrev pub IsNameOf : ConfigKind → List Token → ℕ → Option (List ℕ) → Type 0
IsNameOf UnknownName tokens at meant = IsNameMeant tokens at meant
IsNameOf Unsupported tokens at meant =
    IsWordMeant (fitting_words (context_of tokens at)) (slice_get tokens at) meant
IsNameOf Unexpected tokens at meant =
    IsWordMeant (fitting_words (context_of tokens at)) (slice_get tokens at) meant
IsNameOf _ tokens at meant = meant ≡ None

-- the same, as it is looked for
abbrev pub word_of : HintContext → Option Token → Option (List ℕ)
word_of context None = None
word_of context (Some token) =
    if is_word token then meant_of token.text (fitting_words context) else None

abbrev pub name_in : ConfigKind → HintContext → List Token → ℕ → Option (List ℕ)
name_in UnknownName context tokens at = name_meant tokens at
name_in Unsupported context tokens at = word_of context (slice_get tokens at)
name_in Unexpected context tokens at = word_of context (slice_get tokens at)
name_in _ context tokens at = None

abbrev pub name_of : ConfigKind → List Token → ℕ → Option (List ℕ)
name_of kind tokens at = name_in kind (context_of tokens at) tokens at
