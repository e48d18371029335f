-- The steps left fall with each call.
use Rattle.file_path.proofs.+put_path.Given as goal

abbrev pub decreases-put_path : goal.decreases-put_path
decreases-put_path l = l.left
