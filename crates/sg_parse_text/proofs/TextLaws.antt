-- The laws of whole texts.
use Rattle.std.proofs.Common.{◌≡◌, ◌∙◌, ◌⊎◌, inl, inr, ℕ, zero, suc, ◌+◌, ◌<◌, ◌≤◌, true, false, cond, List, [], ◌∷◌, ◌++◌, length, codes, Ok, Err, refl, sym, ap, subst, append_assoc, arith}
use Rattle.std.proofs.lemmas.List.{append-nil}
use Rattle.sg_lex.specs.declared.fault.ConfigKind.TheVariants.{Unexpected}
use Rattle.sg_parse_base.specs.declared.spot.Spot.{Spot}
use Rattle.sg_parse_base.specs.declared.fault.ParseFault.{ParseFault}
use Rattle.sg_parse_base.specs.Tokens.{is_name}
use Rattle.sg_parse_base.specs.Input.{◌>>=◌, behind, next_is, sees, sees_word, symbol, fault_at}
use Rattle.sg_parse_base.specs.Laws.{LeavesEnd}
use Rattle.sg_parse_base.specs.Grammar.{Symbol, Keyword}
use Rattle.sg_parse_base.proofs.Steps.{step_ok, ok_is, chosen, sees-takes, symbol-takes, takes-symbol, takes-sees, takes-behind, symbol-leaves, shorter, name-sees}
use Rattle.sg_parse_base.proofs.ChainLaws.{takes-word}
use Rattle.sg_parse_obj.specs.Objects.{object_at, object_in}
use Rattle.sg_parse_obj.specs.declared.object.Object.{Object}
use Rattle.sg_parse_obj.specs.Grammar.{IsObject}
use Rattle.sg_parse_obj.proofs.Apart.{apart}
use Rattle.sg_parse_obj.proofs.ObjectLaws.{object-sound, object-again, object-leaves}
use Rattle.sg_parse_path.specs.Paths.{log_in}
use Rattle.sg_parse_path.proofs.PathLaws.{log-sound, log-again, log-leaves}
use Rattle.sg_parse_text.specs.declared.statement.Statement.{Statement}
use Rattle.sg_parse_text.specs.declared.statement.Statement.TheVariants as statement
use Rattle.sg_parse_text.specs.Texts.{ends, statement_at, ended_at, text_from, text_at}
use Rattle.sg_parse_text.specs.Grammar.{IsStatement, IsConfigText}
use Rattle.sg_parse_obj.proofs.DriverLaws.{keyword-name}

statement-sound : (s : List Spot) (y : Statement × List Spot) → statement_at s ≡ Ok y → IsStatement s y.0 y.1
unfolding statement_at object_at
statement-sound s y e =
    elim (chosen (sees_word (codes "log") s) (log_in 64 s >>= λ x. Ok (statement.Log x.0, x.1)) (object_in 64 s >>= λ x. Ok (statement.Object x.0, x.1)) (Ok y) e) [
      | inl h ↦
          let a = step_ok (log_in 64 s) (λ x. Ok (statement.Log x.0, x.1)) y h.1 in
          let is = ok_is (statement.Log a.0.0) y.0 a.0.1 y.1 a.2 in
          subst (λ (x : Statement). IsStatement s x y.1) is.0 (subst (λ (r : List Spot). IsStatement s (statement.Log a.0.0) r) is.1 (log-sound 64 s a.0 a.1))
      | inr h ↦
          let a = step_ok (object_in 64 s) (λ x. Ok (statement.Object x.0, x.1)) y h.1 in
          let is = ok_is (statement.Object a.0.0) y.0 a.0.1 y.1 a.2 in
          subst (λ (x : Statement). IsStatement s x y.1) is.0 (subst (λ (r : List Spot). IsStatement s (statement.Object a.0.0) r) is.1 (object-sound 64 s a.0 a.1))
    ]

-- the word that a statement begins with
object-word : (s r : List Spot) (x : Object) → IsObject 64 s x r → (word : List ℕ) × (m : List Spot) × Keyword word s m × (sees_word (codes "log") s ≡ false)
object-word s r x (IsObject.options _ m _ calls _ k one is) = (codes "options", m, k, apart (codes "options") (codes "log") refl s m k)
object-word s r x (IsObject.source _ m n _ called calls _ k t one is) = (codes "source", m, k, apart (codes "source") (codes "log") refl s m k)
object-word s r x (IsObject.destination _ m n _ called calls _ k t one is) = (codes "destination", m, k, apart (codes "destination") (codes "log") refl s m k)
object-word s r x (IsObject.filter _ m n _ called found _ k t one is) = (codes "filter", m, k, apart (codes "filter") (codes "log") refl s m k)
object-word s r x (IsObject.rewrite _ m n _ called calls _ k t one is) = (codes "rewrite", m, k, apart (codes "rewrite") (codes "log") refl s m k)
object-word s r x (IsObject.parser _ m n _ called calls _ k t one is) = (codes "parser", m, k, apart (codes "parser") (codes "log") refl s m k)
object-word s r x (IsObject.block _ m n _ called items _ k t one is) = (codes "template", m, k, apart (codes "template") (codes "log") refl s m k)
object-word s r x (IsObject.text _ m n _ called text _ k t one is) = (codes "template", m, k, apart (codes "template") (codes "log") refl s m k)

statement-front : (s r : List Spot) (x : Statement) → IsStatement s x r → next_is is_name s ≡ true
statement-front s r (statement.Log log) t = keyword-name (codes "log") s t.m (t.spot, t.is_word)
statement-front s r (statement.Object object) t = let w = object-word s r object t in keyword-name w.0 s w.1 w.2

statement-again : (s r : List Spot) (x : Statement) → IsStatement s x r → statement_at s ≡ Ok (x, r)
unfolding statement_at object_at
statement-again s r (statement.Log log) t = rw (takes-word (codes "log") s t.m (t.spot, t.is_word), log-again 64 s r log t) refl
statement-again s r (statement.Object object) t = rw ((object-word s r object t).3, object-again 64 s r object t) refl

pub statement-leaves : (s r : List Spot) (x : Statement) → IsStatement s x r → LeavesEnd s r
statement-leaves s r (statement.Log log) t = log-leaves 64 s r log t
statement-leaves s r (statement.Object object) t = object-leaves 64 s r object t

ended-sound : (s : List Spot) (y : Statement × List Spot) → ended_at s ≡ Ok y → (m : List Spot) × IsStatement s y.0 m × Symbol 59 m y.1
unfolding ended_at
ended-sound s y e =
    let a = step_ok (statement_at s) (λ x. symbol 59 x.1 >>= λ next. Ok (x.0, next.1)) y e in
    let b = step_ok (symbol 59 a.0.1) (λ next. Ok (a.0.0, next.1)) y a.2 in
    let is = ok_is a.0.0 y.0 b.0.1 y.1 b.2 in
    (a.0.1, subst (λ (x : Statement). IsStatement s x a.0.1) is.0 (statement-sound s a.0 a.1), subst (λ (r : List Spot). Symbol 59 a.0.1 r) is.1 (symbol-takes 59 a.0.1 b.0 b.1))

ended-again : (s m r : List Spot) (x : Statement) → IsStatement s x m → Symbol 59 m r → ended_at s ≡ Ok (x, r)
unfolding ended_at
ended-again s m r x t semi = rw (statement-again s m x t, takes-symbol 59 m r semi) refl

ends-nil : (s : List Spot) → ends s ≡ true → s ≡ []
ends-nil [] e = refl
ends-nil (spot ∷ spots) e = absurd cc

text_from-sound : (n : ℕ) (found : List Statement) (s : List Spot) (y : List Statement × List Spot) → text_from n found s ≡ Ok y → (xs : List Statement) × (y.0 ≡ found ++ xs) × IsConfigText s xs
unfolding text_from
text_from-sound zero found s y e =
    elim (chosen (ends s) (Ok (found, [])) (Err (fault_at Unexpected s)) (Ok y) e) [
      | inl h ↦ let is = ok_is found y.0 [] y.1 h.1 in ([], sym is.0 ∙ sym (append-nil found), subst (λ (k : List Spot). IsConfigText k []) (sym (ends-nil s h.0)) IsConfigText.none)
      | inr h ↦ absurd cc
    ]
text_from-sound (suc n) found s y e =
    elim (chosen (ends s) (Ok (found, [])) (cond (sees 59 s) (text_from n found (behind s)) (ended_at s >>= λ x. text_from n (found ++ x.0 ∷ []) x.1)) (Ok y) e) [
      | inl h ↦ let is = ok_is found y.0 [] y.1 h.1 in ([], sym is.0 ∙ sym (append-nil found), subst (λ (k : List Spot). IsConfigText k []) (sym (ends-nil s h.0)) IsConfigText.none)
      | inr h ↦
          elim (chosen (sees 59 s) (text_from n found (behind s)) (ended_at s >>= λ x. text_from n (found ++ x.0 ∷ []) x.1) (Ok y) h.1) [
            | inl g ↦
                let rest = text_from-sound n found (behind s) y g.1 in
                (rest.0, rest.1, IsConfigText.extra s (behind s) rest.0 (sees-takes 59 s g.0) rest.2)
            | inr g ↦
                let a = step_ok (ended_at s) (λ x. text_from n (found ++ x.0 ∷ []) x.1) y g.1 in
                let one = ended-sound s a.0 a.1 in
                let rest = text_from-sound n (found ++ a.0.0 ∷ []) a.0.1 y a.2 in
                (a.0.0 ∷ rest.0, rest.1 ∙ append_assoc found (a.0.0 ∷ []) rest.0, IsConfigText.more s one.0 a.0.1 a.0.0 rest.0 one.1 one.2 rest.2)
          ]
    ]

pub text-sound : (s : List Spot) (xs : List Statement) → text_at s ≡ Ok (xs, []) → IsConfigText s xs
unfolding text_at
text-sound s xs e = let all = text_from-sound (length s) [] s (xs, []) e in subst (λ (ys : List Statement). IsConfigText s ys) (sym all.1) all.2

front-goes : (s : List Spot) → next_is is_name s ≡ true → ends s ≡ false
front-goes [] e = absurd cc
front-goes (spot ∷ spots) e = refl

symbol-goes : (byte : ℕ) (s r : List Spot) → Symbol byte s r → ends s ≡ false
symbol-goes byte s r t = rw t.1.0 refl

text_from-again : (n : ℕ) (found xs : List Statement) (s : List Spot) → IsConfigText s xs → length s ≤ n → text_from n found s ≡ Ok (found ++ xs, [])
unfolding text_from
text_from-again zero found xs s (IsConfigText.none) le = rw append-nil refl
text_from-again zero found xs s (IsConfigText.extra _ m _ t rest) le = absurd (omega (arith, shorter s m (symbol-leaves 59 s m t), le))
text_from-again zero found xs s (IsConfigText.more _ m k x ys t semi rest) le = absurd (omega (arith, shorter s m (statement-leaves s m x t), le))
text_from-again (suc n) found xs s (IsConfigText.none) le = rw append-nil refl
text_from-again (suc n) found xs s (IsConfigText.extra _ m _ t rest) le =
    let later = text_from-again n found xs m rest (omega (arith, shorter s m (symbol-leaves 59 s m t), le)) in
    rw (symbol-goes 59 s m t, takes-sees 59 s m t, takes-behind 59 s m t, later) refl
text_from-again (suc n) found xs s (IsConfigText.more _ m k x ys t semi rest) le =
    let less = shorter s m (statement-leaves s m x t) in
    let front = statement-front s m x t in
    let later = text_from-again n (found ++ x ∷ []) ys k rest (omega (arith, less, shorter m k (symbol-leaves 59 m k semi), le)) in
    rw (front-goes s front, name-sees 59 s front, ended-again s m k x t semi, later, append_assoc found (x ∷ []) ys) refl

pub text-again : (s : List Spot) (xs : List Statement) → IsConfigText s xs → text_at s ≡ Ok (xs, [])
unfolding text_at
text-again s xs t = text_from-again (length s) [] xs s t (omega arith)

pub text-none : (s : List Spot) (xs : List Statement) (fault : ParseFault) → text_at s ≡ Err fault → IsConfigText s xs → ⊥
text-none s xs fault refused stands = let read = sym refused ∙ text-again s xs stands in cc
