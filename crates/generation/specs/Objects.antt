-- Objects as callers see them.
use Rattle.std.specs.Prelude.{length, Option, Some, None}
use Rattle.path_tree.specs.Paths.{Bytes}
use Rattle.generation.specs.Layouts.{Placed}
use Rattle.generation.specs.declared.listing.Object.{Object}
use Rattle.generation.specs.declared.listing.ObjectKind.{ObjectKind}
use Rattle.generation.specs.declared.listing.ObjectKind.TheVariants as kinds

-- a file by its length, or a folder
abbrev pub kind_of : Option Bytes → ObjectKind
kind_of (Some b) = kinds.File (length b)
kind_of None = kinds.Folder

-- where an object stands in the tree, what it is, and the module that it lies in
abbrev pub object_of : Placed → Object
object_of o = record { path = o.spot.path; kind = kind_of o.spot.content; «module» = o.module_id }
