-- The kept index as objects.
use Rattle.std.specs.Prelude.{ℕ, List, map, Option, Some, None}
use Rattle.biop_object.specs.declared.module.Kind.{Kind}
use Rattle.biop_object.specs.declared.module.Kind.TheVariants as kinds
use Rattle.biop_object.specs.declared.module.Indexed.{Indexed}
use Rattle.biop_object.specs.declared.reading.Heading as code
use Rattle.biop_object.specs.declared.reading.ReadFault.{ReadFault}
use Rattle.biop_object.specs.declared.reading.ReadFault.TheVariants as faults
use Rattle.biop_object.specs.Objects.{Object, Heading, Shape, IsFile, IsFolder, IsOther, view_binding}

abbrev pub view_kind : Kind → Shape
view_kind (kinds.File span) = IsFile span.first span.length
view_kind (kinds.Folder bindings) = IsFolder (map view_binding bindings)
view_kind kinds.Other = IsOther

abbrev pub view_heading : code.Heading → Heading
view_heading h = record { key = h.key.now; kind = h.kind.now }

abbrev pub view_indexed : Indexed → Object
view_indexed i = record { key = i.key.items; shape = view_kind i.kind }

abbrev pub view_index : List Indexed → List Object
view_index index = map view_indexed index

-- why a message isn't read
abbrev pub cause : ReadFault → Option ℕ
cause (faults.Bad place) = Some place
cause faults.NoMemory = None
