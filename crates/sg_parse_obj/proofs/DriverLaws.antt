-- Drivers, options and templates: what is read is of the grammar, and what is of the grammar is read.
use Rattle.std.proofs.Common.{◌≡◌, inl, inr, ℕ, true, cond, List, [], ◌∷◌, Some, Ok, Err, refl, sym, subst}
use Rattle.std.specs.Prelude.{codes}
use Rattle.std.proofs.lemmas.Bool.{and_parts}
use Rattle.sg_lex.specs.declared.fault.ConfigKind.TheVariants.{Unexpected, Unsupported}
use Rattle.sg_parse_base.specs.declared.spot.Spot.{Spot}
use Rattle.sg_parse_base.specs.Tokens.{is_name, is_word, is_keyword, same_keyword}
use Rattle.sg_parse_base.specs.Input.{◌>>=◌, behind, any, next_is, sees_word, symbol, fault_at, spot_line}
use Rattle.sg_parse_base.specs.Lists.{body}
use Rattle.sg_parse_base.specs.Grammar.{Symbol, Keyword, Braced}
use Rattle.sg_parse_base.specs.Laws.{Agrees, Matches, LeavesEnd}
use Rattle.sg_parse_base.proofs.Steps.{step_ok, guard_ok, test_ok, ok_is, chosen, symbol-takes, takes-symbol, leaves-then, takes-leaves, symbol-leaves}
use Rattle.sg_parse_base.proofs.ListLaws.{many-law, body-law}
use Rattle.sg_parse_base.proofs.ChainLaws.{word-takes, takes-word, keyword-behind, keyword-leaves}
use Rattle.sg_parse_expr.specs.declared.class.Class.TheVariants.{Text, Truth}
use Rattle.sg_parse_expr.specs.Classes.{passes, is_yes}
use Rattle.sg_parse_expr.specs.Forms.{row_of}
use Rattle.sg_parse_expr.specs.Args.{value, flat_args}
use Rattle.sg_parse_expr.specs.Grammar.{FlatArgs}
use Rattle.sg_parse_expr.proofs.CallLaws.{word-name, value-takes, takes-value, flat_args-law, called-law, nested-law, named-law}
use Rattle.sg_parse_obj.specs.declared.table.OptionForm.{OptionForm}
use Rattle.sg_parse_obj.specs.declared.table.OptionForm.TheVariants as option
use Rattle.sg_parse_obj.specs.declared.table.DriverForm.{DriverForm}
use Rattle.sg_parse_obj.specs.declared.table.DriverForm.TheVariants as driver
use Rattle.sg_parse_obj.specs.declared.table.OptionTable.{OptionTable}
use Rattle.sg_parse_obj.specs.declared.driver.Side.{Side}
use Rattle.sg_parse_obj.specs.declared.templates.TemplateItem.{TemplateItem}
use Rattle.sg_parse_obj.specs.declared.templates.TemplateItem.TheVariants as item
use Rattle.sg_parse_obj.specs.Tables.{disk, global_form, option_form}
use Rattle.sg_parse_obj.specs.Drivers as d
use Rattle.sg_parse_obj.specs.Templates as t
use Rattle.sg_parse_obj.specs.Grammar.{DiskOption, DriverOptionArgs, DriverOption, DriverArgs, DriverCall, DriverCalls, GlobalOption, TextItem, EscapeItem, IsTemplateItem}
use Rattle.sg_parse_obj.proofs.Apart.{apart}

disk_option-law : Agrees d.disk_option DiskOption
unfolding d.disk_option
disk_option-law = nested-law (row_of disk) flat_args FlatArgs flat_args-law

option_args-law : (form : OptionForm) → Matches (d.option_args form) (DriverOptionArgs form)
unfolding d.option_args
option_args-law (option.Flat form) = flat_args-law form
option_args-law option.Disk = many-law d.disk_option DiskOption disk_option-law

driver_option-law : (table : OptionTable) → Agrees (d.driver_option table) (DriverOption table)
unfolding d.driver_option
driver_option-law table = nested-law (option_form table) d.option_args DriverOptionArgs option_args-law

driver_args-law : (form : DriverForm) → Matches (d.driver_args form) (DriverArgs form)
unfolding d.driver_args
driver_args-law (driver.Options table) = many-law (d.driver_option table) (DriverOption table) (driver_option-law table)
driver_args-law (driver.Named class table) = named-law (d.driver_option table) (DriverOption table) (driver_option-law table) class

driver-law : (side : Side) → Agrees (d.driver side) (DriverCall side)
unfolding d.driver
driver-law side = called-law (d.driver_form side) d.driver_args DriverArgs driver_args-law

pub drivers-law : (side : Side) → Matches (d.drivers side) (DriverCalls side)
unfolding d.drivers
drivers-law side = body-law (d.driver side) (DriverCall side) (driver-law side)

global_option-law : Agrees d.global_option GlobalOption
unfolding d.global_option
global_option-law = called-law global_form flat_args FlatArgs flat_args-law

pub globals-law : Matches (body d.global_option) (Braced GlobalOption)
globals-law = body-law d.global_option GlobalOption global_option-law

-- ---- templates

pub keyword-name : (word : List ℕ) (s r : List Spot) → Keyword word s r → next_is is_name s ≡ true
unfolding is_keyword
keyword-name word s r k = rw k.1.0 (word-name k.0.token (and_parts (is_word k.0.token) (same_keyword k.0.token.text word) k.1.1).0)

text-sound : (s : List Spot) (y : TemplateItem × List Spot) → sees_word (codes "template") s ≡ true → t.text_item (behind s) ≡ Ok y → TextItem s y.0 y.1
unfolding t.text_item
text-sound s y is_word h =
    let a = step_ok (symbol 40 (behind s)) (λ opened. value Text opened.1 >>= λ x. symbol 41 x.1 >>= λ close. Ok (item.Text x.0, close.1)) y h in
    let b = step_ok (value Text a.0.1) (λ x. symbol 41 x.1 >>= λ close. Ok (item.Text x.0, close.1)) y a.2 in
    let c = step_ok (symbol 41 b.0.1) (λ close. Ok (item.Text b.0.0, close.1)) y b.2 in
    let is = ok_is (item.Text b.0.0) y.0 c.0.1 y.1 c.2 in
    record {
      text = b.0.0;
      m = behind s;
      inner = a.0.1;
      after = b.0.1;
      word = word-takes (codes "template") s is_word;
      opens = symbol-takes 40 (behind s) a.0 a.1;
      is_text = value-takes Text a.0.1 b.0 b.1;
      closes = subst (λ (r : List Spot). Symbol 41 b.0.1 r) is.1 (symbol-takes 41 b.0.1 c.0 c.1);
      is = sym is.0;
    }

text-again : (s r : List Spot) (x : TemplateItem) → TextItem s x r → t.text_item (behind s) ≡ Ok (x, r)
unfolding t.text_item
text-again s r x k = rw (keyword-behind (codes "template") s k.m k.word, takes-symbol 40 k.m k.inner k.opens, takes-value Text k.inner k.text k.after k.is_text, takes-symbol 41 k.after r k.closes, k.is) refl

any-behind : (s : List Spot) (x : Spot × List Spot) → any s ≡ Ok x → behind s ≡ x.1
unfolding any
any-behind [] x e = absurd cc
any-behind (spot ∷ spots) x e = (ok_is spot x.0 spots x.1 e).1

takes-any : (word : List ℕ) (s r : List Spot) (k : Keyword word s r) → any s ≡ Ok (k.0, r)
unfolding any
takes-any word s r k = rw k.1.0 refl

escape-sound : (s : List Spot) (y : TemplateItem × List Spot) → sees_word (codes "template-escape") s ≡ true → t.escape_item s ≡ Ok y → EscapeItem s y.0 y.1
unfolding t.escape_item
escape-sound s y is_word h =
    let w = step_ok (any s) (λ word. symbol 40 word.1 >>= λ opened. value Truth opened.1 >>= λ x. cond (is_yes x.0.token.text) (Err (record { kind = Unsupported; at = Some (spot_line word.0) })) (symbol 41 x.1 >>= λ close. Ok (item.Escape, close.1))) y h in
    let a = step_ok (symbol 40 w.0.1) (λ opened. value Truth opened.1 >>= λ x. cond (is_yes x.0.token.text) (Err (record { kind = Unsupported; at = Some (spot_line w.0.0) })) (symbol 41 x.1 >>= λ close. Ok (item.Escape, close.1))) y w.2 in
    let b = step_ok (value Truth a.0.1) (λ x. cond (is_yes x.0.token.text) (Err (record { kind = Unsupported; at = Some (spot_line w.0.0) })) (symbol 41 x.1 >>= λ close. Ok (item.Escape, close.1))) y a.2 in
    let g = guard_ok (is_yes b.0.0.token.text) (record { kind = Unsupported; at = Some (spot_line w.0.0) }) (symbol 41 b.0.1 >>= λ close. Ok (item.Escape, close.1)) y b.2 in
    let c = step_ok (symbol 41 b.0.1) (λ close. Ok (item.Escape, close.1)) y g.1 in
    let is = ok_is item.Escape y.0 c.0.1 y.1 c.2 in
    let after_word : behind s ≡ w.0.1 = any-behind s w.0 w.1 in
    record {
      truth = b.0.0;
      m = behind s;
      inner = a.0.1;
      after = b.0.1;
      word = word-takes (codes "template-escape") s is_word;
      opens = subst (λ (k : List Spot). Symbol 40 k a.0.1) (sym after_word) (symbol-takes 40 w.0.1 a.0 a.1);
      is_truth = value-takes Truth a.0.1 b.0 b.1;
      is_no = g.0;
      closes = subst (λ (r : List Spot). Symbol 41 b.0.1 r) is.1 (symbol-takes 41 b.0.1 c.0 c.1);
      is = sym is.0;
    }

escape-again : (s r : List Spot) (x : TemplateItem) → EscapeItem s x r → t.escape_item s ≡ Ok (x, r)
unfolding t.escape_item
escape-again s r x k = rw (takes-any (codes "template-escape") s k.m k.word, takes-symbol 40 k.m k.inner k.opens, takes-value Truth k.inner k.truth k.after k.is_truth, k.is_no, takes-symbol 41 k.after r k.closes, k.is) refl

item-sound : (s : List Spot) (y : TemplateItem × List Spot) → t.template_item s ≡ Ok y → IsTemplateItem s y.0 y.1
unfolding t.template_item
item-sound s y h =
    elim (chosen (sees_word (codes "template") s) (t.text_item (behind s)) (cond (sees_word (codes "template-escape") s) (t.escape_item s) (Err (fault_at Unexpected s))) (Ok y) h) [
      | inl a ↦ inl (text-sound s y a.0 a.1)
      | inr a ↦ let b = test_ok (sees_word (codes "template-escape") s) (fault_at Unexpected s) (t.escape_item s) y a.1 in inr (escape-sound s y b.0 b.1)
    ]

item-again : (s r : List Spot) (x : TemplateItem) → IsTemplateItem s x r → t.template_item s ≡ Ok (x, r)
unfolding t.template_item
item-again s r x (inl k) = rw (takes-word (codes "template") s k.m k.word) (text-again s r x k)
item-again s r x (inr k) = rw (apart (codes "template-escape") (codes "template") refl s k.m k.word, takes-word (codes "template-escape") s k.m k.word) (escape-again s r x k)

item-front : (s r : List Spot) (x : TemplateItem) → IsTemplateItem s x r → next_is is_name s ≡ true
item-front s r x (inl k) = keyword-name (codes "template") s k.m k.word
item-front s r x (inr k) = keyword-name (codes "template-escape") s k.m k.word

item-leaves : (s r : List Spot) (x : TemplateItem) → IsTemplateItem s x r → LeavesEnd s r
item-leaves s r x (inl k) = leaves-then s k.m r (keyword-leaves (codes "template") s k.m k.word) (leaves-then k.m k.inner r (symbol-leaves 40 k.m k.inner k.opens) (leaves-then k.inner k.after r (takes-leaves (passes Text) k.inner k.text k.after k.is_text) (symbol-leaves 41 k.after r k.closes)))
item-leaves s r x (inr k) = leaves-then s k.m r (keyword-leaves (codes "template-escape") s k.m k.word) (leaves-then k.m k.inner r (symbol-leaves 40 k.m k.inner k.opens) (leaves-then k.inner k.after r (takes-leaves (passes Truth) k.inner k.truth k.after k.is_truth) (symbol-leaves 41 k.after r k.closes)))

pub items-law : Matches (body t.template_item) (Braced IsTemplateItem)
items-law = body-law t.template_item IsTemplateItem (record { sound = item-sound; again = item-again; front = item-front; leaves = item-leaves })
