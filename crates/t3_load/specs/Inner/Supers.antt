-- Which objects of an image have superclasses.
use Rattle.std.specs.Prelude.{Bool, nat_lt, length}
use Rattle.t3_load.specs.ImageObjects.{superclasses}
use Rattle.t3_load.specs.declared.objects.ImageObject.{ImageObject}

abbrev pub has_supers : ImageObject → Bool
has_supers object = nat_lt 0 (length (superclasses object))
