-- Why a pattern of a tree wasn't made, said of its paths.
use Rattle.sg_pattern.specs.declared.text.BuildRefusal.{BuildRefusal}
use Rattle.sg_pattern.specs.declared.text.BuildRefusal.TheVariants as build
use Rattle.sg_tree.specs.declared.refusal.PathRefusal.{PathRefusal}
use Rattle.sg_tree.specs.declared.refusal.PathRefusal.TheVariants.{BadPattern, PatternTooLarge, NoMemory}

abbrev pub path_refusal : BuildRefusal → PathRefusal
path_refusal (build.BadPattern line) = BadPattern line
path_refusal (build.TooLarge line) = PatternTooLarge line
path_refusal build.NoMemory = NoMemory
