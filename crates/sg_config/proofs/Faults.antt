-- The first fault of tokens is one, and there is none where they mean something.
use Rattle.std.proofs.Common.{◌≡◌, ◌∙◌, inl, inr, ◌-◌, List, [], Option, Some, None, Ok, Err, sym, ap, subst}
use Rattle.sg_lex.specs.declared.fault.ConfigFault.{ConfigFault}
use Rattle.sg_lex.specs.declared.token.Token.{Token}
use Rattle.sg_parse_base.specs.declared.spot.Spot.{Spot}
use Rattle.sg_parse_base.specs.Input.{ParseOutcome}
use Rattle.sg_parse_obj.specs.Objects.{spots_at}
use Rattle.sg_parse_obj.specs.Answers.{fault_of}
use Rattle.sg_parse_text.specs.declared.statement.Statement.{Statement}
use Rattle.sg_parse_text.specs.Grammar.{IsConfigText}
use Rattle.sg_parse_text.specs.Texts.{text_at}
use Rattle.sg_fault.specs.declared.placed.Placed.{Placed}
use Rattle.sg_fault.specs.Faults.{earlier, least, fault_at}
use Rattle.sg_names.specs.Faults.{IsNamesFault}
use Rattle.sg_values.specs.Texts.{values_faults}
use Rattle.sg_resolve.specs.Templates.{templates_of}
use Rattle.sg_resolve.specs.Ends.{counted}
use Rattle.sg_resolve.specs.Globals.{globals_faults}
use Rattle.sg_resolve.specs.Places.{places_faults}
use Rattle.sg_resolve.specs.First.{IsFirstFault as HasFirstFault}
use Rattle.sg_config.specs.declared.config.Config.{Config}
use Rattle.sg_config.specs.Means.{Means, IsUnparsed, IsUnresolved, IsFaultOfTokens}

-- what lower crates say
abbrev pub AreRead : Type 0
AreRead = (s : List Spot) (xs : List Statement) → IsConfigText s xs → text_at s ≡ Ok (xs, [])

abbrev pub NamesHaveOne : Type 0
NamesHaveOne = (statements : List Statement) (fault other : Option Placed) → IsNamesFault statements fault → IsNamesFault statements other → fault ≡ other

abbrev read-in : ParseOutcome (List Statement) → List Statement
read-in (Ok x) = x.0
read-in (Err fault) = []

pub same-text : AreRead → (s : List Spot) (xs ys : List Statement) → IsConfigText s xs → IsConfigText s ys → xs ≡ ys
same-text again s xs ys a b = ap read-in (sym (again s xs a) ∙ again s ys b)

abbrev rest : List Statement → Option Placed
rest statements =
    earlier (earlier (least (values_faults statements)) (least (globals_faults statements))) (earlier (counted (templates_of statements) statements).first (least (places_faults statements)))

pub same-first : NamesHaveOne → (statements : List Statement) (a b : Option Placed) → HasFirstFault statements a → HasFirstFault statements b → a ≡ b
same-first one statements a b (names, found, is) (names', found', is') =
    is ∙ ap (λ n. earlier n (rest statements)) (one statements names names' found found') ∙ sym is'

no-text : AreRead → (tokens : List Token) (statements : List Statement) (fault : ConfigFault) → IsConfigText (spots_at tokens 0) statements → IsUnparsed tokens fault → ⊥
no-text again tokens statements fault text (first, last, refused, stands, is) =
    let e = sym (again (spots_at tokens 0) statements text) ∙ refused in cc

unparsed-one : (tokens : List Token) (fault other : ConfigFault) → IsUnparsed tokens fault → IsUnparsed tokens other → fault ≡ other
unparsed-one tokens fault other (first, last, refused, stands, is) (first', last', refused', stands', is') =
    let f : Err first ≡ Err first' = sym refused ∙ refused' in
    let l : Some last ≡ Some last' = sym stands ∙ stands' in
    let same_first : first ≡ first' = cc in
    let same_last : last ≡ last' = cc in
    is ∙ (λ i. fault_of (same_first i) (same_last i)) ∙ sym is'

unresolved-one : NamesHaveOne → (statements : List Statement) (fault other : ConfigFault) → IsUnresolved statements fault → IsUnresolved statements other → fault ≡ other
unresolved-one one statements fault other (placed, has, is) (placed', has', is') =
    let e : Some placed ≡ Some placed' = same-first one statements (Some placed) (Some placed') has has' in
    let same : placed ≡ placed' = cc in
    is ∙ ap fault_at same ∙ sym is'

pub one-fault : AreRead → NamesHaveOne → (tokens : List Token) (fault other : ConfigFault) → IsFaultOfTokens tokens fault → IsFaultOfTokens tokens other → fault ≡ other
one-fault again one tokens fault other (inl a) (inl b) = unparsed-one tokens fault other a b
one-fault again one tokens fault other (inl a) (inr (statements, text, b)) = absurd (no-text again tokens statements fault text a)
one-fault again one tokens fault other (inr (statements, text, a)) (inl b) = absurd (no-text again tokens statements other text b)
one-fault again one tokens fault other (inr (statements, text, a)) (inr (statements', text', b)) =
    let same : statements' ≡ statements = same-text again (spots_at tokens 0) statements' statements text' text in
    unresolved-one one statements fault other a (subst (λ x. IsUnresolved x other) same b)

pub no-fault : AreRead → NamesHaveOne → (tokens : List Token) (config : Config) (fault : ConfigFault) → Means tokens config → IsFaultOfTokens tokens fault → ⊥
no-fault again one tokens config fault means (inl a) = no-text again tokens means.statements fault means.text a
no-fault again one tokens config fault means (inr (statements, text, unresolved)) =
    let same : statements ≡ means.statements = same-text again (spots_at tokens 0) statements means.statements text means.text in
    let (placed, has, is) = unresolved in
    let e : None ≡ Some placed = same-first one means.statements None (Some placed) means.faultless (subst (λ x. HasFirstFault x (Some placed)) same has) in
    cc
