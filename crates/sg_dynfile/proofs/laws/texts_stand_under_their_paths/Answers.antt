use Rattle.sg_dynfile.proofs.Under.{under}
use Rattle.sg_dynfile.proofs.laws.texts_stand_under_their_paths.Goals as goal

pub returns : goal.returns
returns c = under c.frames_keep_paths.ensures
