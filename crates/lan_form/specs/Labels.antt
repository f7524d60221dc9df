-- A label without where its texts lie in memory.
use Rattle.lan_form.specs.declared.shape.Label.{Label as Read}
use Rattle.lan_form.specs.Shape.{Label}

abbrev pub plain_label : Read → Label
plain_label l = record { name = l.name.now; nullable = l.nullable; kind = l.kind.now }
