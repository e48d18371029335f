-- The steps left fall with each call.
use Rattle.file_path.proofs.+measure.Given as goal

abbrev pub decreases-measure : goal.decreases-measure
decreases-measure l = l.left
