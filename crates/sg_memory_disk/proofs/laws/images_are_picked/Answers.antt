use Rattle.sg_memory_disk.proofs.Every.{every_image}
use Rattle.sg_memory_disk.proofs.laws.images_are_picked.Goals as goal

pub returns : goal.returns
returns c = every_image
