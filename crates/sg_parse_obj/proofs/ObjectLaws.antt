-- Statements: what is read is of the grammar, and what is of the grammar is read.
use Rattle.std.proofs.Common.{◌≡◌, inl, inr, ℕ, Bool, true, false, cond, List, Some, None, Ok, Err, refl, sym, subst, ◌∙◌}
use Rattle.std.specs.Prelude.{codes}
use Rattle.sg_lex.specs.declared.fault.ConfigKind.TheVariants.{Unexpected}
use Rattle.sg_parse_base.specs.declared.fault.ParseFault.{ParseFault}
use Rattle.sg_parse_base.specs.declared.spot.Spot.{Spot}
use Rattle.sg_parse_base.specs.Tokens.{is_name}
use Rattle.sg_parse_base.specs.Input.{ParseOutcome, Parser, ◌>>=◌, behind, sees, sees_word, symbol, name, expected, fault_at}
use Rattle.sg_parse_base.specs.Lists.{body, ending}
use Rattle.sg_parse_base.specs.Grammar.{Stands, TakesToken, Symbol, Keyword, Braced, Ending}
use Rattle.sg_parse_base.specs.Laws.{Matches, LeavesEnd}
use Rattle.sg_parse_base.proofs.Steps.{step_ok, ok_is, chosen, expected-takes, takes-expected, symbol-takes, takes-symbol, takes-sees, leaves-then, takes-leaves, symbol-leaves}
use Rattle.sg_parse_base.proofs.ListLaws.{ending-sound, ending-again, ending-leaves, body-law}
use Rattle.sg_parse_base.proofs.ChainLaws.{word-takes, takes-word, keyword-behind, keyword-leaves, string-no_symbol}
use Rattle.sg_parse_expr.specs.declared.tree.Call.{Call}
use Rattle.sg_parse_expr.specs.declared.tree.RawExpr.{RawExpr}
use Rattle.sg_parse_expr.specs.declared.class.Class.TheVariants.{Text}
use Rattle.sg_parse_expr.specs.Classes.{passes}
use Rattle.sg_parse_expr.specs.Args.{value}
use Rattle.sg_parse_expr.specs.Expr.{expr}
use Rattle.sg_parse_expr.specs.Rewrites.{rewrite_call}
use Rattle.sg_parse_expr.specs.Ends.{EndsExpression}
use Rattle.sg_parse_expr.specs.Grammar.{Expression, RewriteCall}
use Rattle.sg_parse_expr.proofs.CallLaws.{value-takes, takes-value, text-string}
use Rattle.sg_parse_expr.proofs.ExprLaws.{symbol-ends, expr-sound, expr-again, expr-leaves}
use Rattle.sg_parse_expr.proofs.RewriteLaws.{rewrite-law}
use Rattle.sg_parse_obj.specs.declared.object.Object.{Object}
use Rattle.sg_parse_obj.specs.declared.object.Object.TheVariants.{Options, Source, Destination, Filter, Rewrite, Parser as ParserObject, Template}
use Rattle.sg_parse_obj.specs.declared.driver.Side.TheVariants as side
use Rattle.sg_parse_obj.specs.declared.templates.TemplateItem.{TemplateItem}
use Rattle.sg_parse_obj.specs.Drivers.{drivers, global_option}
use Rattle.sg_parse_obj.specs.Parsers.{parser_calls}
use Rattle.sg_parse_obj.specs.Templates.{template_item, last_text}
use Rattle.sg_parse_obj.specs.Objects as o
use Rattle.sg_parse_obj.specs.Grammar.{DriverCalls, GlobalOption, FilterBody, Rewrites, Parsers, IsTemplateItem, TakesText, IsObject}
use Rattle.sg_parse_obj.proofs.Apart.{apart}
use Rattle.sg_parse_obj.proofs.DriverLaws.{drivers-law, globals-law, items-law}
use Rattle.sg_parse_obj.proofs.ParserLaws.{parsers-law}

-- ---- bodies

after-ends : (s m r : List Spot) → Ending s m → Symbol 125 m r → EndsExpression s
after-ends s m r (inl same) t = subst EndsExpression (sym same) (symbol-ends 125 m r t)
after-ends s m r (inr semi) t = symbol-ends 59 s m semi

pub filter_body-law : (depth : ℕ) → Matches (o.filter_body depth) (FilterBody depth)
unfolding o.filter_body
filter_body-law depth = record {
  sound = λ s y h.
      let b = step_ok (symbol 123 s) (λ opened. expr depth opened.1 >>= λ x. ending x.1 >>= λ next. symbol 125 next.1 >>= λ close. Ok (x.0, close.1)) y h in
      let c = step_ok (expr depth b.0.1) (λ x. ending x.1 >>= λ next. symbol 125 next.1 >>= λ close. Ok (x.0, close.1)) y b.2 in
      let d = step_ok (ending c.0.1) (λ next. symbol 125 next.1 >>= λ close. Ok (c.0.0, close.1)) y c.2 in
      let k = step_ok (symbol 125 d.0.1) (λ close. Ok (c.0.0, close.1)) y d.2 in
      let is = ok_is c.0.0 y.0 k.0.1 y.1 k.2 in
      record {
        inner = b.0.1;
        after = c.0.1;
        closing = d.0.1;
        opens = symbol-takes 123 s b.0 b.1;
        is_expr = subst (λ (x : RawExpr). Expression depth b.0.1 x c.0.1) is.0 (expr-sound depth b.0.1 c.0 c.1);
        ends = elim (ending-sound c.0.1 d.0 d.1) [ inl e ↦ inl e.1 | inr t ↦ inr t ];
        closes = subst (λ (r : List Spot). Symbol 125 d.0.1 r) is.1 (symbol-takes 125 d.0.1 k.0 k.1);
      };
  again = λ s r x t.
      let stops = after-ends t.after t.closing r t.ends t.closes in
      rw (takes-symbol 123 s t.inner t.opens, expr-again depth t.inner t.after x t.is_expr stops, ending-again t.after t.closing r t.ends t.closes, takes-symbol 125 t.closing r t.closes) refl;
  leaves = λ s r x t.
      leaves-then s t.inner r (symbol-leaves 123 s t.inner t.opens)
      (leaves-then t.inner t.after r (expr-leaves depth t.inner t.after x t.is_expr)
      (ending-leaves t.after t.closing r t.ends (symbol-leaves 125 t.closing r t.closes)));
}

pub rewrites-law : (depth : ℕ) → Matches (o.rewrites depth) (Rewrites depth)
unfolding o.rewrites
rewrites-law depth = body-law (rewrite_call depth) (RewriteCall depth) (rewrite-law depth)

-- ---- a name and what stands behind it

-- what stands behind a word
abbrev pub NamedBy : {A : Type 0} → List ℕ → Stands A → (Spot → A → Object) → List Spot → Object → List Spot → Type 0
NamedBy {A} word One build s x r = (m : List Spot) × (n : List Spot) × (called : Spot) × (found : A) × Keyword word s m × TakesToken is_name m called n × One n found r × (x ≡ build called found)

module _ {A : Type 0} (parse : Parser A) (One : Stands A) (law : Matches parse One) (build : Spot → A → Object) where
  pub named_in-sound : (word : List ℕ) (s : List Spot) (y : Object × List Spot) → sees_word word s ≡ true → (expected is_name (behind s) >>= λ called. parse called.1 >>= λ found. Ok (build called.0 found.0, found.1)) ≡ Ok y → NamedBy word One build s y.0 y.1
  named_in-sound word s y is_word h =
      let a = step_ok (expected is_name (behind s)) (λ called. parse called.1 >>= λ found. Ok (build called.0 found.0, found.1)) y h in
      let b = step_ok (parse a.0.1) (λ found. Ok (build a.0.0 found.0, found.1)) y a.2 in
      let is = ok_is (build a.0.0 b.0.0) y.0 b.0.1 y.1 b.2 in
      (behind s, a.0.1, a.0.0, b.0.0, word-takes word s is_word, expected-takes is_name (behind s) a.0 a.1, subst (λ (r : List Spot). One a.0.1 b.0.0 r) is.1 (law.sound a.0.1 b.0 b.1), sym is.0)

  pub named_in-again : (word : List ℕ) (s m n r : List Spot) (called : Spot) (found : A) (x : Object) → Keyword word s m → TakesToken is_name m called n → One n found r → x ≡ build called found → (expected is_name (behind s) >>= λ called. parse called.1 >>= λ found. Ok (build called.0 found.0, found.1)) ≡ Ok (x, r)
  named_in-again word s m n r called found x k t one is = rw (keyword-behind word s m k, takes-expected is_name m called n t, law.again n r found one, is) refl

named_in-leaves : (word : List ℕ) (s m n r : List Spot) (called : Spot) → Keyword word s m → TakesToken is_name m called n → LeavesEnd n r → LeavesEnd s r
named_in-leaves word s m n r called k t l = leaves-then s m r (keyword-leaves word s m k) (leaves-then m n r (takes-leaves is_name m called n t) l)

-- ---- statements

options-sound : (depth : ℕ) (s : List Spot) (y : Object × List Spot) → sees_word (codes "options") s ≡ true → o.options (behind s) ≡ Ok y → IsObject depth s y.0 y.1
unfolding o.options
options-sound depth s y is_word h =
    let a = step_ok (body global_option (behind s)) (λ calls. Ok (Options calls.0, calls.1)) y h in
    let is = ok_is (Options a.0.0) y.0 a.0.1 y.1 a.2 in
    IsObject.options s (behind s) y.1 a.0.0 y.0 (word-takes (codes "options") s is_word) (subst (λ (r : List Spot). Braced GlobalOption (behind s) a.0.0 r) is.1 (globals-law.sound (behind s) a.0 a.1)) (sym is.0)

source-sound : (depth : ℕ) (s : List Spot) (y : Object × List Spot) → sees_word (codes "source") s ≡ true → o.source (behind s) ≡ Ok y → IsObject depth s y.0 y.1
unfolding o.source name
source-sound depth s y is_word h =
    let t = named_in-sound (drivers side.Source) (DriverCalls side.Source) (drivers-law side.Source) (λ called found. Source called found) (codes "source") s y is_word h in
    IsObject.source s t.0 t.1 y.1 t.2 t.3 y.0 t.4 t.5 t.6 t.7

destination-sound : (depth : ℕ) (s : List Spot) (y : Object × List Spot) → sees_word (codes "destination") s ≡ true → o.destination (behind s) ≡ Ok y → IsObject depth s y.0 y.1
unfolding o.destination name
destination-sound depth s y is_word h =
    let t = named_in-sound (drivers side.Destination) (DriverCalls side.Destination) (drivers-law side.Destination) (λ called found. Destination called found) (codes "destination") s y is_word h in
    IsObject.destination s t.0 t.1 y.1 t.2 t.3 y.0 t.4 t.5 t.6 t.7

filter-sound : (depth : ℕ) (s : List Spot) (y : Object × List Spot) → sees_word (codes "filter") s ≡ true → o.filter depth (behind s) ≡ Ok y → IsObject depth s y.0 y.1
unfolding o.filter name
filter-sound depth s y is_word h =
    let t = named_in-sound (o.filter_body depth) (FilterBody depth) (filter_body-law depth) (λ called found. Filter called found) (codes "filter") s y is_word h in
    IsObject.filter s t.0 t.1 y.1 t.2 t.3 y.0 t.4 t.5 t.6 t.7

rewrite-sound : (depth : ℕ) (s : List Spot) (y : Object × List Spot) → sees_word (codes "rewrite") s ≡ true → o.rewrite depth (behind s) ≡ Ok y → IsObject depth s y.0 y.1
unfolding o.rewrite name
rewrite-sound depth s y is_word h =
    let t = named_in-sound (o.rewrites depth) (Rewrites depth) (rewrites-law depth) (λ called found. Rewrite called found) (codes "rewrite") s y is_word h in
    IsObject.rewrite s t.0 t.1 y.1 t.2 t.3 y.0 t.4 t.5 t.6 t.7

parser-sound : (depth : ℕ) (s : List Spot) (y : Object × List Spot) → sees_word (codes "parser") s ≡ true → o.parser (behind s) ≡ Ok y → IsObject depth s y.0 y.1
unfolding o.parser name
parser-sound depth s y is_word h =
    let t = named_in-sound parser_calls Parsers parsers-law (λ called found. ParserObject called found) (codes "parser") s y is_word h in
    IsObject.parser s t.0 t.1 y.1 t.2 t.3 y.0 t.4 t.5 t.6 t.7

template-sound : (depth : ℕ) (s : List Spot) (y : Object × List Spot) → sees_word (codes "template") s ≡ true → o.template (behind s) ≡ Ok y → IsObject depth s y.0 y.1
unfolding o.template o.template_block o.template_text name
template-sound depth s y is_word h =
    let a = step_ok (expected is_name (behind s)) (λ called. cond (sees 123 called.1) (body template_item called.1 >>= λ items. Ok (Template called.0 (last_text None items.0), items.1)) (value Text called.1 >>= λ text. Ok (Template called.0 (Some text.0), text.1))) y h in
    let word = word-takes (codes "template") s is_word in
    let called = expected-takes is_name (behind s) a.0 a.1 in
    elim (chosen (sees 123 a.0.1) (body template_item a.0.1 >>= λ items. Ok (Template a.0.0 (last_text None items.0), items.1)) (value Text a.0.1 >>= λ text. Ok (Template a.0.0 (Some text.0), text.1)) (Ok y) a.2) [
      | inl k ↦
          let b = step_ok (body template_item a.0.1) (λ items. Ok (Template a.0.0 (last_text None items.0), items.1)) y k.1 in
          let is = ok_is (Template a.0.0 (last_text None b.0.0)) y.0 b.0.1 y.1 b.2 in
          IsObject.block s (behind s) a.0.1 y.1 a.0.0 b.0.0 y.0 word called (subst (λ (r : List Spot). Braced IsTemplateItem a.0.1 b.0.0 r) is.1 (items-law.sound a.0.1 b.0 b.1)) (sym is.0)
      | inr k ↦
          let b = step_ok (value Text a.0.1) (λ text. Ok (Template a.0.0 (Some text.0), text.1)) y k.1 in
          let is = ok_is (Template a.0.0 (Some b.0.0)) y.0 b.0.1 y.1 b.2 in
          IsObject.text s (behind s) a.0.1 y.1 a.0.0 b.0.0 y.0 word called (subst (λ (r : List Spot). TakesText a.0.1 b.0.0 r) is.1 (value-takes Text a.0.1 b.0 b.1)) (sym is.0)
    ]

-- one of seven words stands there
pick : (b : Bool) (y : Object × List Spot) (one other : ParseOutcome Object) (X : Type 0) → (b ≡ true → one ≡ Ok y → X) → (other ≡ Ok y → X) → cond b one other ≡ Ok y → X
pick true y one other X f g h = f refl h
pick false y one other X f g h = g h

refused : (x : ParseFault) (z : Object × List Spot) (X : Type 0) → Err x ≡ Ok z → X
refused x z X h = absurd cc

pub object-sound : (depth : ℕ) (s : List Spot) (y : Object × List Spot) → o.object_in depth s ≡ Ok y → IsObject depth s y.0 y.1
unfolding o.object_in
object-sound depth s y h =
    let X = IsObject depth s y.0 y.1 in
    let none : ParseOutcome Object = cond (sees_word (codes "parser") s) (o.parser (behind s)) (Err (fault_at Unexpected s)) in
    let sixth : ParseOutcome Object = cond (sees_word (codes "options") s) (o.options (behind s)) none in
    let fifth : ParseOutcome Object = cond (sees_word (codes "template") s) (o.template (behind s)) sixth in
    let fourth : ParseOutcome Object = cond (sees_word (codes "rewrite") s) (o.rewrite depth (behind s)) fifth in
    let third : ParseOutcome Object = cond (sees_word (codes "filter") s) (o.filter depth (behind s)) fourth in
    let second : ParseOutcome Object = cond (sees_word (codes "destination") s) (o.destination (behind s)) third in
    pick (sees_word (codes "source") s) y (o.source (behind s)) second X (source-sound depth s y)
    (pick (sees_word (codes "destination") s) y (o.destination (behind s)) third X (destination-sound depth s y)
    (pick (sees_word (codes "filter") s) y (o.filter depth (behind s)) fourth X (filter-sound depth s y)
    (pick (sees_word (codes "rewrite") s) y (o.rewrite depth (behind s)) fifth X (rewrite-sound depth s y)
    (pick (sees_word (codes "template") s) y (o.template (behind s)) sixth X (template-sound depth s y)
    (pick (sees_word (codes "options") s) y (o.options (behind s)) none X (options-sound depth s y)
    (pick (sees_word (codes "parser") s) y (o.parser (behind s)) (Err (fault_at Unexpected s)) X (parser-sound depth s y)
    (refused (fault_at Unexpected s) y X))))))) h

options-again : (s m r : List Spot) (calls : List Call) (x : Object) → Keyword (codes "options") s m → Braced GlobalOption m calls r → x ≡ Options calls → o.options (behind s) ≡ Ok (x, r)
unfolding o.options
options-again s m r calls x k one is = rw (keyword-behind (codes "options") s m k, globals-law.again m r calls one, is) refl

source-again : (s m n r : List Spot) (called : Spot) (found : List Call) (x : Object) → Keyword (codes "source") s m → TakesToken is_name m called n → DriverCalls side.Source n found r → x ≡ Source called found → o.source (behind s) ≡ Ok (x, r)
unfolding o.source name
source-again s m n r called found x k t one is = named_in-again (drivers side.Source) (DriverCalls side.Source) (drivers-law side.Source) (λ called found. Source called found) (codes "source") s m n r called found x k t one is

destination-again : (s m n r : List Spot) (called : Spot) (found : List Call) (x : Object) → Keyword (codes "destination") s m → TakesToken is_name m called n → DriverCalls side.Destination n found r → x ≡ Destination called found → o.destination (behind s) ≡ Ok (x, r)
unfolding o.destination name
destination-again s m n r called found x k t one is = named_in-again (drivers side.Destination) (DriverCalls side.Destination) (drivers-law side.Destination) (λ called found. Destination called found) (codes "destination") s m n r called found x k t one is

filter-again : (depth : ℕ) (s m n r : List Spot) (called : Spot) (found : RawExpr) (x : Object) → Keyword (codes "filter") s m → TakesToken is_name m called n → FilterBody depth n found r → x ≡ Filter called found → o.filter depth (behind s) ≡ Ok (x, r)
unfolding o.filter name
filter-again depth s m n r called found x k t one is = named_in-again (o.filter_body depth) (FilterBody depth) (filter_body-law depth) (λ called found. Filter called found) (codes "filter") s m n r called found x k t one is

rewrite-again : (depth : ℕ) (s m n r : List Spot) (called : Spot) (found : List Call) (x : Object) → Keyword (codes "rewrite") s m → TakesToken is_name m called n → Rewrites depth n found r → x ≡ Rewrite called found → o.rewrite depth (behind s) ≡ Ok (x, r)
unfolding o.rewrite name
rewrite-again depth s m n r called found x k t one is = named_in-again (o.rewrites depth) (Rewrites depth) (rewrites-law depth) (λ called found. Rewrite called found) (codes "rewrite") s m n r called found x k t one is

parser-again : (s m n r : List Spot) (called : Spot) (found : List Call) (x : Object) → Keyword (codes "parser") s m → TakesToken is_name m called n → Parsers n found r → x ≡ ParserObject called found → o.parser (behind s) ≡ Ok (x, r)
unfolding o.parser name
parser-again s m n r called found x k t one is = named_in-again parser_calls Parsers parsers-law (λ called found. ParserObject called found) (codes "parser") s m n r called found x k t one is

block-again : (s m n r : List Spot) (called : Spot) (items : List TemplateItem) (x : Object) → Keyword (codes "template") s m → TakesToken is_name m called n → Braced IsTemplateItem n items r → x ≡ Template called (last_text None items) → o.template (behind s) ≡ Ok (x, r)
unfolding o.template o.template_block name
block-again s m n r called items x k t one is = rw (keyword-behind (codes "template") s m k, takes-expected is_name m called n t, takes-sees 123 n one.0 one.1, items-law.again n r items one, is) refl

text-again : (s m n r : List Spot) (called text : Spot) (x : Object) → Keyword (codes "template") s m → TakesToken is_name m called n → TakesText n text r → x ≡ Template called (Some text) → o.template (behind s) ≡ Ok (x, r)
unfolding o.template o.template_text name
text-again s m n r called text x k t one is =
    let no_brace : sees 123 n ≡ false = string-no_symbol 123 n (rw one.0 (text-string text.token one.1)) in
    rw (keyword-behind (codes "template") s m k, takes-expected is_name m called n t, no_brace, takes-value Text n text r one, is) refl

pub object-again : (depth : ℕ) (s r : List Spot) (x : Object) → IsObject depth s x r → o.object_in depth s ≡ Ok (x, r)
unfolding o.object_in
object-again depth s r x (IsObject.source _ m n _ called calls _ k t one is) =
    rw (takes-word (codes "source") s m k) (source-again s m n r called calls x k t one is)
object-again depth s r x (IsObject.destination _ m n _ called calls _ k t one is) =
    rw (apart (codes "destination") (codes "source") refl s m k, takes-word (codes "destination") s m k) (destination-again s m n r called calls x k t one is)
object-again depth s r x (IsObject.filter _ m n _ called found _ k t one is) =
    rw (apart (codes "filter") (codes "source") refl s m k, apart (codes "filter") (codes "destination") refl s m k, takes-word (codes "filter") s m k) (filter-again depth s m n r called found x k t one is)
object-again depth s r x (IsObject.rewrite _ m n _ called calls _ k t one is) =
    rw (apart (codes "rewrite") (codes "source") refl s m k, apart (codes "rewrite") (codes "destination") refl s m k, apart (codes "rewrite") (codes "filter") refl s m k, takes-word (codes "rewrite") s m k) (rewrite-again depth s m n r called calls x k t one is)
object-again depth s r x (IsObject.parser _ m n _ called calls _ k t one is) =
    rw (apart (codes "parser") (codes "source") refl s m k, apart (codes "parser") (codes "destination") refl s m k, apart (codes "parser") (codes "filter") refl s m k, apart (codes "parser") (codes "rewrite") refl s m k, apart (codes "parser") (codes "template") refl s m k, apart (codes "parser") (codes "options") refl s m k, takes-word (codes "parser") s m k) (parser-again s m n r called calls x k t one is)
object-again depth s r x (IsObject.block _ m n _ called items _ k t one is) =
    rw (apart (codes "template") (codes "source") refl s m k, apart (codes "template") (codes "destination") refl s m k, apart (codes "template") (codes "filter") refl s m k, apart (codes "template") (codes "rewrite") refl s m k, takes-word (codes "template") s m k) (block-again s m n r called items x k t one is)
object-again depth s r x (IsObject.text _ m n _ called text _ k t one is) =
    rw (apart (codes "template") (codes "source") refl s m k, apart (codes "template") (codes "destination") refl s m k, apart (codes "template") (codes "filter") refl s m k, apart (codes "template") (codes "rewrite") refl s m k, takes-word (codes "template") s m k) (text-again s m n r called text x k t one is)
object-again depth s r x (IsObject.options _ m _ calls _ k one is) =
    rw (apart (codes "options") (codes "source") refl s m k, apart (codes "options") (codes "destination") refl s m k, apart (codes "options") (codes "filter") refl s m k, apart (codes "options") (codes "rewrite") refl s m k, apart (codes "options") (codes "template") refl s m k, takes-word (codes "options") s m k) (options-again s m r calls x k one is)

pub object-leaves : (depth : ℕ) (s r : List Spot) (x : Object) → IsObject depth s x r → LeavesEnd s r
object-leaves depth s r x (IsObject.source _ m n _ called calls _ k t one is) = named_in-leaves (codes "source") s m n r called k t ((drivers-law side.Source).leaves n r calls one)
object-leaves depth s r x (IsObject.destination _ m n _ called calls _ k t one is) = named_in-leaves (codes "destination") s m n r called k t ((drivers-law side.Destination).leaves n r calls one)
object-leaves depth s r x (IsObject.filter _ m n _ called found _ k t one is) = named_in-leaves (codes "filter") s m n r called k t ((filter_body-law depth).leaves n r found one)
object-leaves depth s r x (IsObject.rewrite _ m n _ called calls _ k t one is) = named_in-leaves (codes "rewrite") s m n r called k t ((rewrites-law depth).leaves n r calls one)
object-leaves depth s r x (IsObject.parser _ m n _ called calls _ k t one is) = named_in-leaves (codes "parser") s m n r called k t (parsers-law.leaves n r calls one)
object-leaves depth s r x (IsObject.block _ m n _ called items _ k t one is) = named_in-leaves (codes "template") s m n r called k t (items-law.leaves n r items one)
object-leaves depth s r x (IsObject.text _ m n _ called text _ k t one is) = named_in-leaves (codes "template") s m n r called k t (takes-leaves (passes Text) n text r one)
object-leaves depth s r x (IsObject.options _ m _ calls _ k one is) = leaves-then s m r (keyword-leaves (codes "options") s m k) (globals-law.leaves m r calls one)

pub nothing-stands : (depth : ℕ) (s r : List Spot) (x : Object) (fault : ParseFault) → o.object_in depth s ≡ Err fault → IsObject depth s x r → ⊥
nothing-stands depth s r x fault refused stands = let read = sym refused ∙ object-again depth s r x stands in cc
