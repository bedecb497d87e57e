-- Rewrites: what is read is of the grammar, and what is of the grammar is read.
use Rattle.std.proofs.Common.{ℕ, List, [], ◌∷◌, Ok, refl, sym, subst}
use Rattle.sg_parse_base.specs.declared.spot.Spot.{Spot}
use Rattle.sg_parse_base.specs.Input.{◌>>=◌, symbol}
use Rattle.sg_parse_base.specs.Grammar.{Symbol}
use Rattle.sg_parse_base.specs.Laws.{Agrees, Matches}
use Rattle.sg_parse_base.proofs.Steps.{step_ok, ok_is, symbol-takes, takes-symbol, leaves-then, symbol-leaves}
use Rattle.sg_parse_base.proofs.ListLaws.{many-law}
use Rattle.sg_parse_expr.specs.declared.tree.Arg.TheVariants.{Test}
use Rattle.sg_parse_expr.specs.declared.class.Class.TheVariants.{Name, Template}
use Rattle.sg_parse_expr.specs.declared.form.RewriteTable.{RewriteTable}
use Rattle.sg_parse_expr.specs.declared.form.RewriteOption.{RewriteOption}
use Rattle.sg_parse_expr.specs.declared.form.RewriteOption.TheVariants as option
use Rattle.sg_parse_expr.specs.declared.form.RewriteForm.{RewriteForm}
use Rattle.sg_parse_expr.specs.declared.form.RewriteForm.TheVariants as rewrite
use Rattle.sg_parse_expr.specs.Forms.{row_of, rewrite_options, rewrites}
use Rattle.sg_parse_expr.specs.Expr.{expr}
use Rattle.sg_parse_expr.specs.Rewrites.{condition, option_args, rewrite_option, rewrite_args, rewrite_call}
use Rattle.sg_parse_expr.specs.Grammar.{Condition, RewriteOptionArgs, RewriteOptionOf, RewriteArgs, RewriteCall}
use Rattle.sg_parse_expr.proofs.CallLaws.{flat_args-law, called-law, nested-law, named-law, paired-law}
use Rattle.sg_parse_expr.proofs.ExprLaws.{symbol-ends, expr-sound, expr-again, expr-leaves}

condition-law : (depth : ℕ) → Matches (condition depth) (Condition depth)
unfolding condition
condition-law depth = record {
  sound = λ s y h.
      let a = step_ok (symbol 40 s) (λ opened. expr depth opened.1 >>= λ x. symbol 41 x.1 >>= λ close. Ok (Test x.0 ∷ [], close.1)) y h in
      let b = step_ok (expr depth a.0.1) (λ x. symbol 41 x.1 >>= λ close. Ok (Test x.0 ∷ [], close.1)) y a.2 in
      let c = step_ok (symbol 41 b.0.1) (λ close. Ok (Test b.0.0 ∷ [], close.1)) y b.2 in
      let is = ok_is (Test b.0.0 ∷ []) y.0 c.0.1 y.1 c.2 in
      (a.0.1, b.0.1, b.0.0, symbol-takes 40 s a.0 a.1, expr-sound depth a.0.1 b.0 b.1, subst (λ (r : List Spot). Symbol 41 b.0.1 r) is.1 (symbol-takes 41 b.0.1 c.0 c.1), sym is.0);
  again = λ s r args t.
      rw (takes-symbol 40 s t.0 t.3, expr-again depth t.0 t.1 t.2 t.4 (symbol-ends 41 t.1 r t.5), takes-symbol 41 t.1 r t.5, t.6) refl;
  leaves = λ s r args t.
      leaves-then s t.0 r (symbol-leaves 40 s t.0 t.3) (leaves-then t.0 t.1 r (expr-leaves depth t.0 t.1 t.2 t.4) (symbol-leaves 41 t.1 r t.5));
}

option_args-law : (depth : ℕ) (form : RewriteOption) → Matches (option_args depth form) (RewriteOptionArgs depth form)
unfolding option_args
option_args-law depth (option.Flat form) = flat_args-law form
option_args-law depth option.Condition = condition-law depth

rewrite_option-law : (depth : ℕ) (table : RewriteTable) → Agrees (rewrite_option depth table) (RewriteOptionOf depth table)
unfolding rewrite_option
rewrite_option-law depth table = nested-law (row_of (rewrite_options table)) (option_args depth) (RewriteOptionArgs depth) (option_args-law depth)

rewrite_args-law : (depth : ℕ) (form : RewriteForm) → Matches (rewrite_args depth form) (RewriteArgs depth form)
unfolding rewrite_args
rewrite_args-law depth (rewrite.Options table) = many-law (rewrite_option depth table) (RewriteOptionOf depth table) (rewrite_option-law depth table)
rewrite_args-law depth (rewrite.Named class table) = named-law (rewrite_option depth table) (RewriteOptionOf depth table) (rewrite_option-law depth table) class
rewrite_args-law depth (rewrite.Pattern table) = paired-law (rewrite_option depth table) (RewriteOptionOf depth table) (rewrite_option-law depth table) Name Template

pub rewrite-law : (depth : ℕ) → Agrees (rewrite_call depth) (RewriteCall depth)
unfolding rewrite_call
rewrite-law depth = called-law (row_of rewrites) (rewrite_args depth) (RewriteArgs depth) (rewrite_args-law depth)
