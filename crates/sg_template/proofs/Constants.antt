-- Templates whose text is the same over every message.
use Rattle.std.proofs.Common.{◌≡◌, ℕ, ◌<◌, ◌≤◌, List, [], ◌∷◌, length, get_or, Option, None, Some, IfSome, Bor, option_copied, append-nil, refl, sym, ap, ◌∙◌, arith}
use Rattle.sg_msg.specs.Message.{Content}
use Rattle.sg_macro.specs.declared.part.TemplatePart.{TemplatePart}
use Rattle.sg_macro.specs.declared.part.TemplatePart.TheVariants.{Literal, Macro, Pair}
use Rattle.sg_template.specs.declared.env.Env.{Env}
use Rattle.sg_template.specs.Render.{constant_of, render_of}

pub constant-renders : (parts : List TemplatePart) (text : List ℕ) → constant_of parts ≡ Some text → (content : Content) (env : Env) → render_of parts content env ≡ text
unfolding render_of
constant-renders [] text e content env = cc
constant-renders (Literal bytes ∷ []) text e content env = let same : bytes ≡ text = cc in append-nil bytes ∙ same
constant-renders (Literal bytes ∷ part ∷ parts) text e content env = absurd (cc)
constant-renders (Macro kind default ∷ parts) text e content env = absurd (cc)
constant-renders (Pair name default ∷ parts) text e content env = absurd (cc)

pub renders-if : (parts : List TemplatePart) (found : Option (Bor (List ℕ))) → option_copied found ≡ constant_of parts → IfSome found (λ text. (content : Content) (env : Env) → render_of parts content env ≡ text.now)
renders-if parts None e = tt
renders-if parts (Some text) e = λ content env. constant-renders parts text.now (sym e) content env

pub no_part : (parts : List TemplatePart) → length parts < 1 → parts ≡ []
no_part [] few = refl
no_part (part ∷ parts) few = absurd (omega arith)

pub one_part : (parts : List TemplatePart) (part : TemplatePart) → 1 ≤ length parts → length parts < 2 → part ≡ get_or parts 0 part → parts ≡ part ∷ []
one_part [] part some few is = absurd (omega arith)
one_part (first ∷ []) part some few is = ap (λ (p : TemplatePart). p ∷ []) (sym is)
one_part (first ∷ second ∷ parts) part some few is = absurd (omega arith)
