use Rattle.wire_dump.proofs.missing.Missing.+put_paths.Given as goal

abbrev pub decreases-put_paths : goal.decreases-put_paths
decreases-put_paths l = l.depth
