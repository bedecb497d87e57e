-- Parsers: what is read is of the grammar, and what is of the grammar is read.
use Rattle.std.proofs.Common.{◌≡◌, inl, inr, ℕ, true, List, [], ◌∷◌, Ok, refl, sym, subst}
use Rattle.std.specs.Prelude.{codes}
use Rattle.sg_parse_base.specs.declared.spot.Spot.{Spot}
use Rattle.sg_parse_base.specs.Input.{◌>>=◌, behind, sees_word, symbol}
use Rattle.sg_parse_base.specs.Grammar.{Symbol}
use Rattle.sg_parse_base.specs.Laws.{Agrees, Matches}
use Rattle.sg_parse_base.proofs.Steps.{step_ok, ok_is, chosen, symbol-takes, takes-symbol, leaves-then, symbol-leaves}
use Rattle.sg_parse_base.proofs.ListLaws.{many-law, body-law}
use Rattle.sg_parse_base.proofs.ChainLaws.{word-takes, takes-word, keyword-behind, keyword-leaves}
use Rattle.sg_parse_expr.specs.declared.class.Class.TheVariants.{Name}
use Rattle.sg_parse_expr.specs.declared.form.Flat.TheVariants.{One}
use Rattle.sg_parse_expr.specs.Forms.{row_of}
use Rattle.sg_parse_expr.specs.Args.{item, flat_args}
use Rattle.sg_parse_expr.specs.Grammar.{OneItem}
use Rattle.sg_parse_expr.proofs.CallLaws.{item-law, flat_args-law, called-law, nested-law}
use Rattle.sg_parse_obj.specs.declared.parsers.ParserTable.{ParserTable}
use Rattle.sg_parse_obj.specs.declared.parsers.ParserOption.{ParserOption}
use Rattle.sg_parse_obj.specs.declared.parsers.ParserOption.TheVariants as form
use Rattle.sg_parse_obj.specs.Parsers as p
use Rattle.sg_parse_obj.specs.Grammar.{Characters, Delimiters, ParserOptionArgs, ParserArgs, ParserCall, Parsers}

characters-law : Matches p.characters Characters
unfolding p.characters
characters-law = record {
  sound = λ s y h.
      elim (chosen (sees_word (codes "chars") s) (flat_args (One Name) (behind s)) (item Name s >>= λ x. Ok (x.0 ∷ [], x.1)) (Ok y) h) [
        | inl a ↦ inl (behind s, word-takes (codes "chars") s a.0, (flat_args-law (One Name)).sound (behind s) y a.1)
        | inr a ↦
            let b = step_ok (item Name s) (λ x. Ok (x.0 ∷ [], x.1)) y a.1 in
            let is = ok_is (b.0.0 ∷ []) y.0 b.0.1 y.1 b.2 in
            inr (b.0.0, a.0, subst (λ (r : List Spot). OneItem Name s b.0.0 r) is.1 ((item-law Name).sound s b.0 b.1), sym is.0)
      ];
  again = λ s r args t.
      elim t [
        | inl k ↦ rw (takes-word (codes "chars") s k.0 k.1, keyword-behind (codes "chars") s k.0 k.1) ((flat_args-law (One Name)).again k.0 r args k.2)
        | inr k ↦ rw (k.1, (item-law Name).again s r k.0 k.2, k.3) refl
      ];
  leaves = λ s r args t.
      elim t [
        | inl k ↦ leaves-then s k.0 r (keyword-leaves (codes "chars") s k.0 k.1) ((flat_args-law (One Name)).leaves k.0 r args k.2)
        | inr k ↦ (item-law Name).leaves s r k.0 k.2
      ];
}

delimiters-law : Matches p.delimiters Delimiters
unfolding p.delimiters
delimiters-law = record {
  sound = λ s y h.
      let a = step_ok (symbol 40 s) (λ opened. p.characters opened.1 >>= λ found. symbol 41 found.1 >>= λ close. Ok (found.0, close.1)) y h in
      let b = step_ok (p.characters a.0.1) (λ found. symbol 41 found.1 >>= λ close. Ok (found.0, close.1)) y a.2 in
      let c = step_ok (symbol 41 b.0.1) (λ close. Ok (b.0.0, close.1)) y b.2 in
      let is = ok_is b.0.0 y.0 c.0.1 y.1 c.2 in
      (a.0.1, b.0.1, symbol-takes 40 s a.0 a.1, subst (λ args. Characters a.0.1 args b.0.1) is.0 (characters-law.sound a.0.1 b.0 b.1), subst (λ (r : List Spot). Symbol 41 b.0.1 r) is.1 (symbol-takes 41 b.0.1 c.0 c.1));
  again = λ s r args t. rw (takes-symbol 40 s t.0 t.2, characters-law.again t.0 t.1 args t.3, takes-symbol 41 t.1 r t.4) refl;
  leaves = λ s r args t. leaves-then s t.0 r (symbol-leaves 40 s t.0 t.2) (leaves-then t.0 t.1 r (characters-law.leaves t.0 t.1 args t.3) (symbol-leaves 41 t.1 r t.4));
}

option_args-law : (option : ParserOption) → Matches (p.option_args option) (ParserOptionArgs option)
unfolding p.option_args
option_args-law (form.Flat flat) = flat_args-law flat
option_args-law form.Delimiters = delimiters-law

parser_args-law : (table : ParserTable) → Matches (p.parser_args table) (ParserArgs table)
unfolding p.parser_args p.option
parser_args-law table = many-law (p.option table) _ (nested-law (row_of (p.parser_options table)) p.option_args ParserOptionArgs option_args-law)

parser-law : Agrees p.parser_call ParserCall
unfolding p.parser_call
parser-law = called-law (row_of p.parsers) p.parser_args ParserArgs parser_args-law

pub parsers-law : Matches p.parser_calls Parsers
unfolding p.parser_calls
parsers-law = body-law p.parser_call ParserCall parser-law
