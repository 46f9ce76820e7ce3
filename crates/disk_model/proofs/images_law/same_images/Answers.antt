use Rattle.disk_model.proofs.AllowedLemmas.{images_agree}
use Rattle.disk_model.proofs.images_law.same_images.Goals as goal

pub returns : goal.returns
returns c = images_agree
