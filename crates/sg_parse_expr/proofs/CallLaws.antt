-- Values and calls: what is read is of the grammar, and what is of the grammar is read.
use Rattle.std.proofs.Common.{◌≡◌, inl, inr, ℕ, Bool, true, false, cond, List, [], ◌∷◌, ◌++◌, Option, Some, None, Ok, refl, sym, ap, subst, ◌∙◌}
use Rattle.std.specs.Prelude.{◌&&◌, ◌||◌, is_none}
use Rattle.std.proofs.lemmas.Bool.{and_parts}
use Rattle.sg_lex.specs.declared.token.Token.{Token}
use Rattle.sg_lex.specs.declared.fault.ConfigKind.{ConfigKind}
use Rattle.sg_lex.specs.declared.fault.ConfigKind.TheVariants as kind
use Rattle.sg_macro.specs.Reading.{parts_of}
use Rattle.sg_parse_base.specs.declared.spot.Spot.{Spot}
use Rattle.sg_parse_base.specs.Tokens.{is_name, is_word, is_string, is_symbol, is_dots, is_number, is_truth, is_word_kind, is_string_kind}
use Rattle.sg_parse_base.specs.Input.{Parser, ◌>>=◌, behind, next_is, any, known, sees_dots, symbol, word}
use Rattle.sg_parse_base.specs.Lists.{gap, items}
use Rattle.sg_parse_base.specs.Skipping.{skipped}
use Rattle.sg_parse_base.specs.Grammar.{Stands, TakesToken, Rest, Skipped}
use Rattle.sg_parse_base.specs.Laws.{Agrees, Matches, LeavesEnd}
use Rattle.sg_parse_base.proofs.Steps.{step_ok, ok_is, chosen, expected-takes, takes-expected, symbol-takes, takes-symbol, leaves-then, takes-leaves, symbol-leaves, name-sees}
use Rattle.sg_parse_base.proofs.ListLaws.{gap-sound, gap-next, rest-of, rest-gap, rest-leaves, commas-leave, items-sound, items-again, many-law, single-law}
use Rattle.sg_parse_base.proofs.SkipLaws.{skipped-sound, skipped-again, skipped-leaves}
use Rattle.sg_parse_expr.specs.declared.tree.Call.{Call}
use Rattle.sg_parse_expr.specs.declared.tree.Arg.{Arg}
use Rattle.sg_parse_expr.specs.declared.tree.Arg.TheVariants.{Item, Range, Nested}
use Rattle.sg_parse_expr.specs.declared.class.Class.{Class}
use Rattle.sg_parse_expr.specs.declared.class.Class.TheVariants as class
use Rattle.sg_parse_expr.specs.declared.form.Flat.{Flat}
use Rattle.sg_parse_expr.specs.declared.form.Flat.TheVariants as flat
use Rattle.sg_parse_expr.specs.declared.form.FilterTable.{FilterTable}
use Rattle.sg_parse_expr.specs.declared.form.FilterForm.{FilterForm}
use Rattle.sg_parse_expr.specs.declared.form.FilterForm.TheVariants as filter
use Rattle.sg_parse_expr.specs.Classes.{verdict, passes, name_verdict, template_verdict, no_number, supported, is_yes}
use Rattle.sg_parse_expr.specs.Forms.{row_of, filters, filter_options}
use Rattle.sg_parse_expr.specs.Args as a
use Rattle.sg_parse_expr.specs.Filters as f
use Rattle.sg_parse_expr.specs.Grammar.{OneItem, ValueSpan, NoArgs, FlatArgs, Called, Option_of, Named, Paired, FilterOption, FilterArgs, FilterCall}

-- ---- values

pub word-name : (token : Token) → is_word token ≡ true → is_name token ≡ true
unfolding is_word is_name
word-name token h = rw h refl

string-name : (token : Token) → is_string token ≡ true → is_name token ≡ true
unfolding is_string is_name
string-name token h = by (is_word_kind token.kind)
  where
    by : (b : Bool) → (b || is_string_kind token.kind) ≡ true
    by true = refl
    by false = h

guarded : (b : Bool) (o : Option ConfigKind) (k : ConfigKind) → is_none (cond b o (Some k)) ≡ true → b ≡ true
guarded true o k h = refl
guarded false o k h = absurd cc

no_number-none : (token : Token) → is_none (no_number token) ≡ true → ⊥
no_number-none token h = by (is_symbol 44 token) h
  where
    by : (b : Bool) → is_none (cond b (Some kind.Unexpected) (Some kind.BadNumber)) ≡ true → ⊥
    by true h = absurd cc
    by false h = absurd cc

numeric : (token : Token) (b : Bool) (o : Option ConfigKind) → is_none (cond (is_word token && b) o (no_number token)) ≡ true → is_name token ≡ true
numeric token b o h = by (is_word token && b) refl h
  where
    by : (c : Bool) → (is_word token && b) ≡ c → is_none (cond c o (no_number token)) ≡ true → is_name token ≡ true
    by true e h = word-name token (and_parts (is_word token) b e).0
    by false e h = absurd (no_number-none token h)

-- a value is a word or a string
pub passes-name : (class : Class) (token : Token) → passes class token ≡ true → is_name token ≡ true
unfolding passes verdict
passes-name class.Name token h = guarded (is_name token) (name_verdict class.Name token) kind.Unexpected h
passes-name class.Template token h = guarded (is_name token) (name_verdict class.Template token) kind.Unexpected h
passes-name class.Text token h = string-name token (guarded (is_string token) (template_verdict (parts_of token.text)) kind.Unexpected h)
passes-name class.Number token h = numeric token (is_number token.text) None h
passes-name class.Truth token h = numeric token (is_truth token.text) None h
passes-name class.Yes token h = numeric token (is_truth token.text) (supported (is_yes token.text)) h
passes-name class.Facility token h = guarded (is_name token) (name_verdict class.Facility token) kind.Unexpected h
passes-name class.Level token h = guarded (is_name token) (name_verdict class.Level token) kind.Unexpected h
passes-name (class.Word choice) token h = guarded (is_name token) (name_verdict (class.Word choice) token) kind.Unexpected h

-- a text is a string
pub text-string : (token : Token) → passes class.Text token ≡ true → is_string token ≡ true
unfolding passes verdict
text-string token h = guarded (is_string token) (template_verdict (parts_of token.text)) kind.Unexpected h

pub value-takes : (class : Class) (s : List Spot) (x : Spot × List Spot) → a.value class s ≡ Ok x → TakesToken (passes class) s x.0 x.1
unfolding a.value a.next_verdict any passes
value-takes class [] x e = absurd cc
value-takes class (spot ∷ spots) x e = by (verdict class spot.token) refl e
  where
    by : (o : Option ConfigKind) → verdict class spot.token ≡ o → a.judged o (spot ∷ spots) ≡ Ok x → TakesToken (passes class) (spot ∷ spots) x.0 x.1
    by None is h =
        let at = ok_is spot x.0 spots x.1 h in
        (ap (λ (y : Spot). y ∷ spots) at.0 ∙ ap (λ (r : List Spot). x.0 ∷ r) at.1, ap (λ (y : Spot). is_none (verdict class y.token)) (sym at.0) ∙ ap is_none is)
    by (Some k) is h = absurd cc

none-is : (o : Option ConfigKind) → is_none o ≡ true → o ≡ None
none-is None h = refl
none-is (Some k) h = absurd cc

pub takes-value : (class : Class) (s : List Spot) (spot : Spot) (r : List Spot) → TakesToken (passes class) s spot r → a.value class s ≡ Ok (spot, r)
unfolding a.value a.next_verdict any passes
takes-value class s spot r t = rw (t.0, none-is (verdict class spot.token) t.1) refl

pub value-front : (class : Class) (s : List Spot) (spot : Spot) (r : List Spot) → TakesToken (passes class) s spot r → next_is is_name s ≡ true
value-front class s spot r t = rw t.0 (passes-name class spot.token t.1)

pub item-law : (class : Class) → Agrees (a.item class) (OneItem class)
unfolding a.item
item-law class = record {
  sound = λ s y h.
      let x = step_ok (a.value class s) (λ x. Ok (Item x.0, x.1)) y h in
      let is = ok_is (Item x.0.0) y.0 x.0.1 y.1 x.2 in
      (x.0.0, subst (λ (r : List Spot). TakesToken (passes class) s x.0.0 r) is.1 (value-takes class s x.0 x.1), sym is.0);
  again = λ s r x t. rw (takes-value class s t.0 r t.1, t.2) refl;
  front = λ s r x t. value-front class s t.0 r t.1;
  leaves = λ s r x t. takes-leaves (passes class) s t.0 r t.1;
}

dots-takes : (s : List Spot) → sees_dots s ≡ true → (spot : Spot) × TakesToken is_dots s spot (behind s)
unfolding sees_dots
dots-takes [] h = absurd cc
dots-takes (spot ∷ spots) h = (spot, (refl, h))

takes-dots : (s : List Spot) (spot : Spot) (r : List Spot) → TakesToken is_dots s spot r → (sees_dots s ≡ true) × (behind s ≡ r)
unfolding sees_dots
takes-dots s spot r t = (rw t.0 t.1, rw t.0 refl)

range-sound : (class : Class) (s : List Spot) (y : Arg × List Spot) → a.range class s ≡ Ok y → ValueSpan class s y.0 y.1
unfolding a.range
range-sound class s y h =
    let x = step_ok (a.value class s) (λ low. cond (sees_dots low.1) (a.value class (behind low.1) >>= λ high. Ok (Range low.0 high.0, high.1)) (Ok (Item low.0, low.1))) y h in
    let low = value-takes class s x.0 x.1 in
    elim (chosen (sees_dots x.0.1) (a.value class (behind x.0.1) >>= λ high. Ok (Range x.0.0 high.0, high.1)) (Ok (Item x.0.0, x.0.1)) (Ok y) x.2) [
      | inl b ↦
          let z = step_ok (a.value class (behind x.0.1)) (λ high. Ok (Range x.0.0 high.0, high.1)) y b.1 in
          let is = ok_is (Range x.0.0 z.0.0) y.0 z.0.1 y.1 z.2 in
          let dots = dots-takes x.0.1 b.0 in
          inr (record {
            low = x.0.0;
            dots = dots.0;
            high = z.0.0;
            m = x.0.1;
            n = behind x.0.1;
            is_low = low;
            are_dots = dots.1;
            is_high = subst (λ (r : List Spot). TakesToken (passes class) (behind x.0.1) z.0.0 r) is.1 (value-takes class (behind x.0.1) z.0 z.1);
            is = sym is.0;
          })
      | inr b ↦
          let is = ok_is (Item x.0.0) y.0 x.0.1 y.1 b.1 in
          inl ((x.0.0, subst (λ (r : List Spot). TakesToken (passes class) s x.0.0 r) is.1 low, sym is.0), ap sees_dots (sym is.1) ∙ b.0)
    ]

range-again : (class : Class) (s r : List Spot) (x : Arg) → ValueSpan class s x r → a.range class s ≡ Ok (x, r)
unfolding a.range
range-again class s r x (inl t) = rw (takes-value class s t.0.0 r t.0.1, t.1, t.0.2) refl
range-again class s r x (inr t) =
    let dots = takes-dots t.m t.dots t.n t.are_dots in
    rw (takes-value class s t.low t.m t.is_low, dots.0, dots.1, takes-value class t.n t.high r t.is_high, t.is) refl

range-front : (class : Class) (s r : List Spot) (x : Arg) → ValueSpan class s x r → next_is is_name s ≡ true
range-front class s r x (inl t) = value-front class s t.0.0 r t.0.1
range-front class s r x (inr t) = value-front class s t.low t.m t.is_low

range-leaves : (class : Class) (s r : List Spot) (x : Arg) → ValueSpan class s x r → LeavesEnd s r
range-leaves class s r x (inl t) = takes-leaves (passes class) s t.0.0 r t.0.1
range-leaves class s r x (inr t) = leaves-then s t.m r (takes-leaves (passes class) s t.low t.m t.is_low) (leaves-then t.m t.n r (takes-leaves is_dots t.m t.dots t.n t.are_dots) (takes-leaves (passes class) t.n t.high r t.is_high))

range-law : (class : Class) → Agrees (a.range class) (ValueSpan class)
range-law class = record { sound = range-sound class; again = range-again class; front = range-front class; leaves = range-leaves class }

-- ---- arguments

no_args-law : Matches a.no_args NoArgs
unfolding a.no_args
no_args-law = record {
  sound = λ s y h.
      let x = step_ok (skipped s) (λ done. Ok ([], done.1)) y h in
      let none : List Arg = [] in
      let is = ok_is none y.0 x.0.1 y.1 x.2 in
      (subst (λ (r : List Spot). Skipped s r) is.1 (skipped-sound s x.0 x.1), sym is.0);
  again = λ s r args t. rw (skipped-again s r t.0, t.1) refl;
  leaves = λ s r args t. skipped-leaves s r t.0;
}

pub flat_args-law : (form : Flat) → Matches (a.flat_args form) (FlatArgs form)
unfolding a.flat_args
flat_args-law flat.Skipped = no_args-law
flat_args-law (flat.One class) = single-law (a.item class) (OneItem class) (item-law class)
flat_args-law (flat.Many class) = many-law (a.item class) (OneItem class) (item-law class)
flat_args-law (flat.Ranges class) = many-law (a.range class) (ValueSpan class) (range-law class)

-- ---- calls

known-sound : {F : Type 0} (o : Option F) (spot : Spot) (s : List Spot) (x : F × List Spot) → known o spot s ≡ Ok x → (o ≡ Some x.0) × (s ≡ x.1)
known-sound (Some form) spot s x h = let is = ok_is form x.0 s x.1 h in (ap (λ (y : _). Some y) is.0, is.1)
known-sound None spot s x h = absurd cc

module _ {F : Type 0} (form_of : List ℕ → Option F) (args_of : F → Parser (List Arg)) (Args : F → Stands (List Arg)) (law : (form : F) → Matches (args_of form) (Args form)) where
  pub called-sound : (s : List Spot) (y : Call × List Spot) → a.called form_of args_of s ≡ Ok y → Called form_of Args s y.0 y.1
  unfolding a.called word
  called-sound s y h =
      let x = step_ok (word s) (λ spot. known (form_of spot.0.token.text) spot.0 spot.1 >>= λ form. args_of form.0 spot.1 >>= λ args. Ok (a.call_of spot.0 args.0, args.1)) y h in
      let b = step_ok (known (form_of x.0.0.token.text) x.0.0 x.0.1) (λ form. args_of form.0 x.0.1 >>= λ args. Ok (a.call_of x.0.0 args.0, args.1)) y x.2 in
      let c = step_ok (args_of b.0.0 x.0.1) (λ args. Ok (a.call_of x.0.0 args.0, args.1)) y b.2 in
      let is = ok_is (a.call_of x.0.0 c.0.0) y.0 c.0.1 y.1 c.2 in
      record {
        word = x.0.0;
        m = x.0.1;
        form = b.0.0;
        args = c.0.0;
        is_word = expected-takes is_word s x.0 x.1;
        has_form = (known-sound (form_of x.0.0.token.text) x.0.0 x.0.1 b.0 b.1).0;
        are_args = subst (λ (r : List Spot). Args b.0.0 x.0.1 c.0.0 r) is.1 ((law b.0.0).sound x.0.1 c.0 c.1);
        is = sym is.0;
      }

  pub called-again : (s r : List Spot) (call : Call) → Called form_of Args s call r → a.called form_of args_of s ≡ Ok (call, r)
  unfolding a.called word
  called-again s r call t = rw (takes-expected is_word s t.word t.m t.is_word, t.has_form, (law t.form).again t.m r t.args t.are_args, t.is) refl

  pub called-leaves : (s r : List Spot) (call : Call) → Called form_of Args s call r → LeavesEnd s r
  called-leaves s r call t = leaves-then s t.m r (takes-leaves is_word s t.word t.m t.is_word) ((law t.form).leaves t.m r t.args t.are_args)

  pub called-word : (s r : List Spot) (call : Call) → Called form_of Args s call r → next_is is_word s ≡ true
  called-word s r call t = rw t.is_word.0 t.is_word.1

  pub called-law : Agrees (a.called form_of args_of) (Called form_of Args)
  called-law = record {
    sound = called-sound;
    again = called-again;
    front = λ s r call t. rw t.is_word.0 (word-name t.word.token t.is_word.1);
    leaves = called-leaves;
  }

  pub nested-law : Agrees (a.nested (a.called form_of args_of)) (Option_of form_of Args)
  unfolding a.nested
  nested-law = record {
    sound = λ s y h.
        let x = step_ok (a.called form_of args_of s) (λ call. Ok (Nested call.0, call.1)) y h in
        let is = ok_is (Nested x.0.0) y.0 x.0.1 y.1 x.2 in
        (x.0.0, subst (λ (r : List Spot). Called form_of Args s x.0.0 r) is.1 (called-sound s x.0 x.1), sym is.0);
    again = λ s r x t. rw (called-again s r t.0 t.1, t.2) refl;
    front = λ s r x t. called-law.front s r t.0 t.1;
    leaves = λ s r x t. called-leaves s r t.0 t.1;
  }

module _ (option : Parser Arg) (Opt : Stands Arg) (agrees : Agrees option Opt) where
  behind-sound : (found : List Arg) (s : List Spot) (y : List Arg × List Spot) → a.options_behind option found s ≡ Ok y → (xs : List Arg) × (y.0 ≡ found ++ xs) × Rest Opt s xs y.1
  unfolding a.options_behind
  behind-sound found s y h =
      let c = step_ok (gap s) (λ next. items option found next.1) y h in
      let d = items-sound option Opt agrees found c.0.1 y c.2 in
      let g = gap-sound s c.0 c.1 in
      (d.0, d.1, rest-of option Opt agrees s c.0.1 y.1 d.0 g.0 g.1 d.2)

  behind-again : (found xs : List Arg) (s r : List Spot) → Rest Opt s xs r → a.options_behind option found s ≡ Ok (found ++ xs, r)
  unfolding a.options_behind
  behind-again found xs s r t =
      let g = rest-gap option Opt agrees s r xs t in
      rw (g.1, items-again option Opt agrees found xs g.0 r g.2) refl

  -- a value and options
  pub named-law : (class : Class) → Matches (a.named class option) (Named class Opt)
  unfolding a.named
  named-law class = record {
    sound = λ s y h.
        let x = step_ok (symbol 40 s) (λ opened. a.value class opened.1 >>= λ first. a.options_behind option (Item first.0 ∷ []) first.1) y h in
        let b = step_ok (a.value class x.0.1) (λ first. a.options_behind option (Item first.0 ∷ []) first.1) y x.2 in
        let d = behind-sound (Item b.0.0 ∷ []) b.0.1 y b.2 in
        record {
          inner = x.0.1;
          after = b.0.1;
          first = b.0.0;
          options = d.0;
          opens = symbol-takes 40 s x.0 x.1;
          is_first = value-takes class x.0.1 b.0 b.1;
          are_options = d.2;
          is = d.1;
        };
    again = λ s r args t.
        rw (takes-symbol 40 s t.inner t.opens, takes-value class t.inner t.first t.after t.is_first, behind-again (Item t.first ∷ []) t.options t.after r t.are_options, t.is) refl;
    leaves = λ s r args t.
        leaves-then s t.inner r (symbol-leaves 40 s t.inner t.opens) (leaves-then t.inner t.after r (takes-leaves (passes class) t.inner t.first t.after t.is_first) (rest-leaves option Opt agrees t.after r t.options t.are_options));
  }

  -- two values and options
  pub paired-law : (class next_class : Class) → Matches (a.paired class next_class option) (Paired class next_class Opt)
  unfolding a.paired
  paired-law class next_class = record {
    sound = λ s y h.
        let x = step_ok (symbol 40 s) (λ opened. a.value class opened.1 >>= λ first. gap first.1 >>= λ next. a.value next_class next.1 >>= λ second. a.options_behind option (Item first.0 ∷ Item second.0 ∷ []) second.1) y h in
        let b = step_ok (a.value class x.0.1) (λ first. gap first.1 >>= λ next. a.value next_class next.1 >>= λ second. a.options_behind option (Item first.0 ∷ Item second.0 ∷ []) second.1) y x.2 in
        let g = step_ok (gap b.0.1) (λ next. a.value next_class next.1 >>= λ second. a.options_behind option (Item b.0.0 ∷ Item second.0 ∷ []) second.1) y b.2 in
        let c = step_ok (a.value next_class g.0.1) (λ second. a.options_behind option (Item b.0.0 ∷ Item second.0 ∷ []) second.1) y g.2 in
        let d = behind-sound (Item b.0.0 ∷ Item c.0.0 ∷ []) c.0.1 y c.2 in
        record {
          inner = x.0.1;
          between = b.0.1;
          next = g.0.1;
          after = c.0.1;
          first = b.0.0;
          second = c.0.0;
          options = d.0;
          opens = symbol-takes 40 s x.0 x.1;
          is_first = value-takes class x.0.1 b.0 b.1;
          commas = (gap-sound b.0.1 g.0 g.1).0;
          is_second = value-takes next_class g.0.1 c.0 c.1;
          are_options = d.2;
          is = d.1;
        };
    again = λ s r args t.
        let front = value-front next_class t.next t.second t.after t.is_second in
        let g = gap-next t.between t.next t.commas (name-sees 44 t.next front) (name-sees 41 t.next front) in
        rw (takes-symbol 40 s t.inner t.opens, takes-value class t.inner t.first t.between t.is_first, g, takes-value next_class t.next t.second t.after t.is_second, behind-again (Item t.first ∷ Item t.second ∷ []) t.options t.after r t.are_options, t.is) refl;
    leaves = λ s r args t.
        leaves-then s t.inner r (symbol-leaves 40 s t.inner t.opens)
        (leaves-then t.inner t.between r (takes-leaves (passes class) t.inner t.first t.between t.is_first)
        (commas-leave t.between t.next r t.commas
        (leaves-then t.next t.after r (takes-leaves (passes next_class) t.next t.second t.after t.is_second)
        (rest-leaves option Opt agrees t.after r t.options t.are_options))));
  }

-- ---- filters

filter_option-law : (table : FilterTable) → Agrees (f.filter_option table) (FilterOption table)
unfolding f.filter_option
filter_option-law table = nested-law (row_of (filter_options table)) a.flat_args FlatArgs flat_args-law

filter_args-law : (form : FilterForm) → Matches (f.filter_args form) (FilterArgs form)
unfolding f.filter_args
filter_args-law (filter.Flat form) = flat_args-law form
filter_args-law (filter.Pattern table) = named-law (f.filter_option table) (FilterOption table) (filter_option-law table) class.Name

pub filter-sound : (s : List Spot) (y : Call × List Spot) → f.filter_call s ≡ Ok y → FilterCall s y.0 y.1
unfolding f.filter_call
filter-sound s y h = called-sound (row_of filters) f.filter_args FilterArgs filter_args-law s y h

pub filter-again : (s r : List Spot) (call : Call) → FilterCall s call r → f.filter_call s ≡ Ok (call, r)
unfolding f.filter_call
filter-again s r call t = called-again (row_of filters) f.filter_args FilterArgs filter_args-law s r call t

pub filter-word : (s r : List Spot) (call : Call) → FilterCall s call r → next_is is_word s ≡ true
filter-word s r call t = called-word (row_of filters) f.filter_args FilterArgs filter_args-law s r call t

pub filter-leaves : (s r : List Spot) (call : Call) → FilterCall s call r → LeavesEnd s r
filter-leaves s r call t = called-leaves (row_of filters) f.filter_args FilterArgs filter_args-law s r call t
