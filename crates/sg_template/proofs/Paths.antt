-- The paths of files.
use Rattle.std.proofs.Common.{◌≡◌, ℕ, ◌+◌, ◌<◌, ◌≤◌, List, [], ◌∷◌, ◌++◌, length, take, arith, length-take, refl, ap, ◌∙◌, codes}
use Rattle.std.proofs.Math.Seq.{take-append-add}
use Rattle.std.specs.List.{flat_map}
use Rattle.sg_msg.specs.Message.{Content}
use Rattle.sg_macro.specs.declared.part.TemplatePart.{TemplatePart}
use Rattle.sg_template.specs.declared.env.Env.{Env}
use Rattle.sg_template.specs.Path.{fitted, path_part, path_of}

fitted-some : (text : List ℕ) → 0 < length (fitted text)
fitted-some [] = omega arith
fitted-some (b ∷ bytes) = omega arith

fitted-most : (text : List ℕ) → length (fitted text) ≤ 4095
fitted-most [] = omega arith
fitted-most (b ∷ bytes) = omega (arith, length-take 4095 (b ∷ bytes))

-- a path has some bytes
pub path_some : (parts : List TemplatePart) (content : Content) (env : Env) → 0 < length (path_of parts content env)
unfolding path_of
path_some parts content env = fitted-some (flat_map (path_part content env) parts)

-- and at most 4,095
pub path_most : (parts : List TemplatePart) (content : Content) (env : Env) → length (path_of parts content env) ≤ 4095
unfolding path_of
path_most parts content env = fitted-most (flat_map (path_part content env) parts)

-- what stands behind a front, cut
pub fitted-cut : (front text : List ℕ) (most : ℕ) → 0 < length text → most ≡ length front + 4095 → take most (front ++ text) ≡ front ++ fitted text
fitted-cut front [] most some e = absurd (omega arith)
fitted-cut front (b ∷ bytes) most some e =
    ap (λ (k : ℕ). take k (front ++ b ∷ bytes)) e ∙ take-append-add front (b ∷ bytes) 4095

-- and where nothing stands there
pub fitted-none : (front text : List ℕ) → length text ≡ 0 → front ++ codes "_" ≡ front ++ fitted text
fitted-none front [] e = refl
fitted-none front (b ∷ bytes) e = absurd (omega arith)
