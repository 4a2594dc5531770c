use Rattle.merge_job.proofs.Merged.{merged_reads}
use Rattle.merge_job.proofs.laws.a_merged_layer_reads_as_its_layers.Goals as goal

pub returns : goal.returns
returns c = merged_reads
