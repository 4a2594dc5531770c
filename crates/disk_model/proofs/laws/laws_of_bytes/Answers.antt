use Rattle.disk_model.specs.OfBytes.{under_way_bytes, done_bytes, image_bytes}
use Rattle.disk_model.proofs.laws.laws_of_bytes.Goals as goal

pub returns-clause-within : goal.returns-clause-within
returns-clause-within c = under_way_bytes

pub returns-clause-after : goal.returns-clause-after
returns-clause-after c = done_bytes

pub returns-clause-images : goal.returns-clause-images
returns-clause-images c = image_bytes
