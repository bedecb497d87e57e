-- Flags and what elements refer to: what is read is of the grammar, and what is of the grammar is read.
use Rattle.std.proofs.Common.{◌≡◌, inl, inr, ℕ, true, false, cond, List, [], ◌∷◌, Option, Some, None, Ok, Err, refl, sym, subst, arith}
use Rattle.std.specs.Prelude.{codes}
use Rattle.std.proofs.lemmas.Bool.{and_parts}
use Rattle.sg_lex.specs.declared.fault.ConfigKind.TheVariants.{Unexpected, Unsupported}
use Rattle.sg_parse_base.specs.declared.spot.Spot.{Spot}
use Rattle.sg_parse_base.specs.Tokens.{is_name, is_word, is_keyword}
use Rattle.sg_parse_base.specs.Input.{Parser, ◌>>=◌, any, next_is, sees, sees_word, symbol, name, expected, fault_at, spot_line}
use Rattle.sg_parse_base.specs.Lists.{many}
use Rattle.sg_parse_base.specs.Grammar.{Stands, TakesToken, Symbol, Keyword, Many}
use Rattle.sg_parse_base.specs.Laws.{Matches, LeavesEnd}
use Rattle.sg_parse_base.proofs.Steps.{step_ok, test_ok, ok_is, chosen, next-takes, expected-takes, takes-expected, sees-takes, symbol-takes, takes-symbol, takes-sees, leaves-then, takes-leaves, symbol-leaves, symbol-sees}
use Rattle.sg_parse_base.proofs.ListLaws.{many-law}
use Rattle.sg_parse_base.proofs.ChainLaws.{takes-word}
use Rattle.sg_parse_obj.specs.declared.object.Object.TheVariants as object
use Rattle.sg_parse_obj.specs.declared.driver.Side.TheVariants as side
use Rattle.sg_parse_obj.specs.Drivers.{drivers}
use Rattle.sg_parse_obj.specs.Objects.{filter_body, rewrites}
use Rattle.sg_parse_obj.specs.Parsers.{parser_calls}
use Rattle.sg_parse_obj.specs.Grammar.{DriverCalls, FilterBody, Rewrites, Parsers}
use Rattle.sg_parse_obj.proofs.Apart.{apart}
use Rattle.sg_parse_obj.proofs.DriverLaws.{drivers-law}
use Rattle.sg_parse_obj.proofs.ParserLaws.{parsers-law}
use Rattle.sg_parse_obj.proofs.ObjectLaws.{filter_body-law, rewrites-law}
use Rattle.sg_parse_path.specs.declared.tree.RawRef.{RawRef}
use Rattle.sg_parse_path.specs.declared.tree.RawRef.TheVariants.{Named, Inline}
use Rattle.sg_parse_path.specs.declared.tree.RawElement.{RawElement}
use Rattle.sg_parse_path.specs.declared.reference.ReferenceKind.{ReferenceKind}
use Rattle.sg_parse_path.specs.declared.reference.ReferenceKind.TheVariants as kind
use Rattle.sg_parse_path.specs.Flags.{flag, is_flag, names_flag}
use Rattle.sg_parse_path.specs.References as f
use Rattle.sg_parse_path.specs.Grammar.{Mapped, BodyOf, Refers, Referring}

flag-sound : (s : List Spot) (y : Spot × List Spot) → flag s ≡ Ok y → TakesToken names_flag s y.0 y.1
unfolding flag name names_flag
flag-sound s y h =
    let a = step_ok (expected is_name s) (λ called. cond (is_flag called.0.token.text) (Ok (called.0, called.1)) (Err (record { kind = Unsupported; at = Some (spot_line called.0) }))) y h in
    let t = test_ok (is_flag a.0.0.token.text) (record { kind = Unsupported; at = Some (spot_line a.0.0) }) (Ok (a.0.0, a.0.1)) y a.2 in
    let k = expected-takes is_name s a.0 a.1 in
    let is : (a.0.0, a.0.1) ≡ y = let e = t.1 in cc in
    subst (λ (q : Spot × List Spot). TakesToken names_flag s q.0 q.1) is (k.0, rw (k.1, t.0) refl)

flag-again : (s r : List Spot) (x : Spot) → TakesToken names_flag s x r → flag s ≡ Ok (x, r)
unfolding flag name names_flag
flag-again s r x t =
    let parts = and_parts (is_name x.token) (is_flag x.token.text) t.1 in
    rw (takes-expected is_name s x r (t.0, parts.0), parts.1) refl

flag-front : (s r : List Spot) (x : Spot) → TakesToken names_flag s x r → next_is is_name s ≡ true
unfolding names_flag
flag-front s r x t = rw t.0 (and_parts (is_name x.token) (is_flag x.token.text) t.1).0

pub flags-law : Matches (many flag) (Many (TakesToken names_flag))
flags-law = many-law flag (TakesToken names_flag) (record { sound = flag-sound; again = flag-again; front = flag-front; leaves = λ s r x t. takes-leaves names_flag s x r t })

-- ---- what is read, made into something else

pub mapped-law : {A B : Type 0} (build : A → B) (parse : Parser A) (One : Stands A) → Matches parse One → Matches (f.mapped build parse) (Mapped build One)
mapped-law {A} {B} build parse One law = record {
  sound = λ s y h.
      let a = step_ok (parse s) (λ x. Ok (build x.0, x.1)) y h in
      let is = ok_is (build a.0.0) y.0 a.0.1 y.1 a.2 in
      (a.0.0, subst (λ (r : List Spot). One s a.0.0 r) is.1 (law.sound s a.0 a.1), sym is.0);
  again = λ s r y t. rw (law.again s r t.0 t.1, t.2) refl;
  leaves = λ s r y t. law.leaves s r t.0 t.1;
}

body_of-law : (depth : ℕ) (kind : ReferenceKind) (called : Spot) → Matches (f.body_of depth kind called) (BodyOf depth kind called)
unfolding f.body_of
body_of-law depth kind.Source called = mapped-law (λ found. object.Source called found) (drivers side.Source) (DriverCalls side.Source) (drivers-law side.Source)
body_of-law depth kind.Destination called = mapped-law (λ found. object.Destination called found) (drivers side.Destination) (DriverCalls side.Destination) (drivers-law side.Destination)
body_of-law depth kind.Filter called = mapped-law (λ found. object.Filter called found) (filter_body depth) (FilterBody depth) (filter_body-law depth)
body_of-law depth kind.Rewrite called = mapped-law (λ found. object.Rewrite called found) (rewrites depth) (Rewrites depth) (rewrites-law depth)
body_of-law depth kind.Parser called = mapped-law (λ found. object.Parser called found) parser_calls Parsers parsers-law

-- ---- references

any-is : (s : List Spot) (x : Spot × List Spot) → any s ≡ Ok x → s ≡ x.0 ∷ x.1
unfolding any
any-is [] x e = absurd cc
any-is (spot ∷ spots) x e = let is : (spot, spots) ≡ x = cc in subst (λ (q : Spot × List Spot). (spot ∷ spots) ≡ q.0 ∷ q.1) is refl

pub takes-any : (s r : List Spot) (x : Spot) → s ≡ x ∷ r → any s ≡ Ok (x, r)
unfolding any
takes-any s r x e = rw e refl

named-sound : (depth : ℕ) (kind : ReferenceKind) (s : List Spot) (y : RawRef × List Spot) → f.named s ≡ Ok y → Refers depth kind s y.0 y.1
unfolding f.named name
named-sound depth kind s y h =
    let a = step_ok (symbol 40 s) (λ opened. expected is_name opened.1 >>= λ called. symbol 41 called.1 >>= λ closed. Ok (Named called.0, closed.1)) y h in
    let b = step_ok (expected is_name a.0.1) (λ called. symbol 41 called.1 >>= λ closed. Ok (Named called.0, closed.1)) y a.2 in
    let c = step_ok (symbol 41 b.0.1) (λ closed. Ok (Named b.0.0, closed.1)) y b.2 in
    let is = ok_is (Named b.0.0) y.0 c.0.1 y.1 c.2 in
    Refers.named s a.0.1 b.0.1 y.1 b.0.0 y.0 (symbol-takes 40 s a.0 a.1) (expected-takes is_name a.0.1 b.0 b.1) (subst (λ (r : List Spot). Symbol 41 b.0.1 r) is.1 (symbol-takes 41 b.0.1 c.0 c.1)) (sym is.0)

inline-sound : (depth : ℕ) (kind : ReferenceKind) (s : List Spot) (y : RawRef × List Spot) → sees 123 s ≡ true → f.inline depth kind s ≡ Ok y → Refers depth kind s y.0 y.1
unfolding f.inline
inline-sound depth kind s y opens h =
    let a = step_ok (any s) (λ brace. f.body_of depth kind brace.0 s >>= λ x. Ok (Inline x.0, x.1)) y h in
    let b = step_ok (f.body_of depth kind a.0.0 s) (λ x. Ok (Inline x.0, x.1)) y a.2 in
    let is = ok_is (Inline b.0.0) y.0 b.0.1 y.1 b.2 in
    Refers.inline s a.0.1 y.1 a.0.0 b.0.0 y.0 (any-is s a.0 a.1) opens (subst (λ (r : List Spot). BodyOf depth kind a.0.0 s b.0.0 r) is.1 ((body_of-law depth kind a.0.0).sound s b.0 b.1)) (sym is.0)

refers-sound : (depth : ℕ) (kind : ReferenceKind) (s : List Spot) (y : RawRef × List Spot) → f.reference depth kind s ≡ Ok y → Refers depth kind s y.0 y.1
unfolding f.reference
refers-sound depth kind s y h =
    elim (chosen (sees 40 s) (f.named s) (cond (sees 123 s) (f.inline depth kind s) (Err (fault_at Unexpected s))) (Ok y) h) [
      | inl a ↦ named-sound depth kind s y a.1
      | inr a ↦ let b = test_ok (sees 123 s) (fault_at Unexpected s) (f.inline depth kind s) y a.1 in inline-sound depth kind s y b.0 b.1
    ]

refers-again : (depth : ℕ) (kind : ReferenceKind) (s r : List Spot) (x : RawRef) → Refers depth kind s x r → f.reference depth kind s ≡ Ok (x, r)
unfolding f.reference f.named f.inline name
refers-again depth kind s r x (Refers.named _ m n _ called _ opens is_name closes is) =
    rw (takes-sees 40 s m opens, takes-symbol 40 s m opens, takes-expected _ m called n is_name, takes-symbol 41 n r closes, is) refl
refers-again depth kind s r x (Refers.inline _ m _ brace found _ front opens is_body is) =
    let no_group : sees 40 s ≡ false = symbol-sees 123 40 s _ (sees-takes 123 s opens) (λ e. omega (arith, e)) in
    rw (no_group, opens, takes-any s m brace front, (body_of-law depth kind brace).again s r found is_body, is) refl

refers-leaves : (depth : ℕ) (kind : ReferenceKind) (s r : List Spot) (x : RawRef) → Refers depth kind s x r → LeavesEnd s r
refers-leaves depth kind s r x (Refers.named _ m n _ called _ opens is_called closes is) = leaves-then s m r (symbol-leaves 40 s m opens) (leaves-then m n r (takes-leaves is_name m called n is_called) (symbol-leaves 41 n r closes))
refers-leaves depth kind s r x (Refers.inline _ m _ brace found _ front opens is_body is) = (body_of-law depth kind brace).leaves s r found is_body

pub referring-sound : (depth : ℕ) (kind : ReferenceKind) (s : List Spot) (y : RawElement × List Spot) → sees_word (f.word_of kind) s ≡ true → f.referring depth kind s ≡ Ok y → Referring depth kind s y.0 y.1
unfolding f.referring sees_word
referring-sound depth kind s y is_word h =
    let a = step_ok (any s) (λ word. f.reference depth kind word.1 >>= λ found. Ok (f.element_of kind word.0 found.0, found.1)) y h in
    let b = step_ok (f.reference depth kind a.0.1) (λ found. Ok (f.element_of kind a.0.0 found.0, found.1)) y a.2 in
    let is = ok_is (f.element_of kind a.0.0 b.0.0) y.0 b.0.1 y.1 b.2 in
    record {
      word = a.0.0;
      m = a.0.1;
      found = b.0.0;
      is_word = next-takes (is_keyword (f.word_of kind)) s a.0 is_word a.1;
      refers = subst (λ (r : List Spot). Refers depth kind a.0.1 b.0.0 r) is.1 (refers-sound depth kind a.0.1 b.0 b.1);
      is = sym is.0;
    }

pub referring-again : (depth : ℕ) (kind : ReferenceKind) (s r : List Spot) (x : RawElement) → Referring depth kind s x r → f.referring depth kind s ≡ Ok (x, r)
unfolding f.referring
referring-again depth kind s r x t = rw (takes-any s t.m t.word t.is_word.0, refers-again depth kind t.m r t.found t.refers, t.is) refl

pub referring-leaves : (depth : ℕ) (kind : ReferenceKind) (s r : List Spot) (x : RawElement) → Referring depth kind s x r → LeavesEnd s r
referring-leaves depth kind s r x t = leaves-then s t.m r (takes-leaves (is_keyword (f.word_of kind)) s t.word t.m t.is_word) (refers-leaves depth kind t.m r t.found t.refers)

-- ---- the kind whose word stands there

here : (s : List Spot) (k kind : ReferenceKind) → sees_word (f.word_of k) s ≡ true → Some k ≡ Some kind → sees_word (f.word_of kind) s ≡ true
here s k kind is e = let same : k ≡ kind = cc in subst (λ (x : ReferenceKind). sees_word (f.word_of x) s ≡ true) same is

abbrev pub fifth : List Spot → Option ReferenceKind
fifth s = cond (sees_word (codes "parser") s) (Some kind.Parser) None

abbrev pub fourth : List Spot → Option ReferenceKind
fourth s = cond (sees_word (codes "rewrite") s) (Some kind.Rewrite) (fifth s)

abbrev pub third : List Spot → Option ReferenceKind
third s = cond (sees_word (codes "filter") s) (Some kind.Filter) (fourth s)

abbrev pub second : List Spot → Option ReferenceKind
second s = cond (sees_word (codes "destination") s) (Some kind.Destination) (third s)

pub kind-sound : (s : List Spot) (k : ReferenceKind) → f.kind_of s ≡ Some k → sees_word (f.word_of k) s ≡ true
unfolding f.kind_of
kind-sound s k h =
    elim (chosen (sees_word (codes "source") s) (Some kind.Source) (second s) (Some k) h) [
      | inl a ↦ here s kind.Source k a.0 a.1
      | inr a ↦ elim (chosen (sees_word (codes "destination") s) (Some kind.Destination) (third s) (Some k) a.1) [
        | inl b ↦ here s kind.Destination k b.0 b.1
        | inr b ↦ elim (chosen (sees_word (codes "filter") s) (Some kind.Filter) (fourth s) (Some k) b.1) [
          | inl c ↦ here s kind.Filter k c.0 c.1
          | inr c ↦ elim (chosen (sees_word (codes "rewrite") s) (Some kind.Rewrite) (fifth s) (Some k) c.1) [
            | inl d ↦ here s kind.Rewrite k d.0 d.1
            | inr d ↦ elim (chosen (sees_word (codes "parser") s) (Some kind.Parser) None (Some k) d.1) [
              | inl e ↦ here s kind.Parser k e.0 e.1
              | inr e ↦ let never = e.1 in absurd cc
            ]
          ]
        ]
      ]
    ]

pub kind-again : (k : ReferenceKind) (s m : List Spot) → Keyword (f.word_of k) s m → f.kind_of s ≡ Some k
unfolding f.kind_of
kind-again kind.Source s m t = rw (takes-word (codes "source") s m t) refl
kind-again kind.Destination s m t = rw (apart (codes "destination") (codes "source") refl s m t, takes-word (codes "destination") s m t) refl
kind-again kind.Filter s m t = rw (apart (codes "filter") (codes "source") refl s m t, apart (codes "filter") (codes "destination") refl s m t, takes-word (codes "filter") s m t) refl
kind-again kind.Rewrite s m t = rw (apart (codes "rewrite") (codes "source") refl s m t, apart (codes "rewrite") (codes "destination") refl s m t, apart (codes "rewrite") (codes "filter") refl s m t, takes-word (codes "rewrite") s m t) refl
kind-again kind.Parser s m t = rw (apart (codes "parser") (codes "source") refl s m t, apart (codes "parser") (codes "destination") refl s m t, apart (codes "parser") (codes "filter") refl s m t, apart (codes "parser") (codes "rewrite") refl s m t, takes-word (codes "parser") s m t) refl

no_kind : (s : List Spot) → sees_word (codes "source") s ≡ false → sees_word (codes "destination") s ≡ false → sees_word (codes "filter") s ≡ false → sees_word (codes "rewrite") s ≡ false → sees_word (codes "parser") s ≡ false → f.kind_of s ≡ None
unfolding f.kind_of
no_kind s a b c d e = rw (a, b, c, d, e) refl

pub junction-no_kind : (s m : List Spot) → Keyword (codes "junction") s m → f.kind_of s ≡ None
junction-no_kind s m t = no_kind s (apart (codes "junction") (codes "source") refl s m t) (apart (codes "junction") (codes "destination") refl s m t) (apart (codes "junction") (codes "filter") refl s m t) (apart (codes "junction") (codes "rewrite") refl s m t) (apart (codes "junction") (codes "parser") refl s m t)

pub if-no_kind : (s m : List Spot) → Keyword (codes "if") s m → f.kind_of s ≡ None
if-no_kind s m t = no_kind s (apart (codes "if") (codes "source") refl s m t) (apart (codes "if") (codes "destination") refl s m t) (apart (codes "if") (codes "filter") refl s m t) (apart (codes "if") (codes "rewrite") refl s m t) (apart (codes "if") (codes "parser") refl s m t)
