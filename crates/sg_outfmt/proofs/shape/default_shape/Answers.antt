use Rattle.sg_outfmt.proofs.shape.default_shape.Goals as goal

pub returns-in_ok-sound_template-in-File : goal.returns-in_ok-sound_template-in-File
returns-in_ok-sound_template-in-File c = rw c.in-File.is c.in_ok-sound_template-in-File.ensures

pub returns-in_ok-sound_template-in-Network : goal.returns-in_ok-sound_template-in-Network
returns-in_ok-sound_template-in-Network c = rw c.in-Network.is c.in_ok-sound_template-in-Network.ensures
