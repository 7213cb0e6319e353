use Rattle.t3_cli.proofs.images.rewrite.rewrite_image.Given as goal

abbrev pub ghosts-rewrite_under : goal.ghosts-rewrite_under
ghosts-rewrite_under g a = record { mask = a.mask }
