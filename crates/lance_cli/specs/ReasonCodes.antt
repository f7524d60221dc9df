-- The code of each reason why an object is outside of what is read: a word, and the reason's numbers.
use Rattle.std.specs.Prelude.{ℕ, List, ◌++◌, codes, decimal}
use Rattle.std.specs.Fmt.{signed_decimal}
use Rattle.json.specs.Print.{quoted}
use Rattle.lan_wire.specs.declared.item.WireKind.{WireKind}
use Rattle.lan_wire.specs.declared.item.WireKind.TheVariants as wire
use Rattle.lan_levels.specs.declared.join.Join.{Join}
use Rattle.lan_levels.specs.declared.join.Join.TheVariants as join
use Rattle.lan_index.specs.declared.fault.IndexFault.{IndexFault}
use Rattle.lan_index.specs.declared.fault.IndexFault.TheVariants as index
use Rattle.lan_zip.specs.declared.fault.ZipFault.{ZipFault}
use Rattle.lan_zip.specs.declared.fault.ZipFault.TheVariants as zip
use Rattle.lan_page.specs.declared.fault.PageReason.{PageReason}
use Rattle.lan_page.specs.declared.fault.PageReason.TheVariants as page
use Rattle.lan_meta.specs.declared.message.Message.{Message}
use Rattle.lan_meta.specs.declared.message.Message.TheVariants as message
use Rattle.lan_meta.specs.declared.message.MetaFault.{MetaFault}
use Rattle.lan_meta.specs.declared.message.MetaFault.TheVariants as meta
use Rattle.lan_file.specs.declared.head_fault.HeadReason.{HeadReason}
use Rattle.lan_file.specs.declared.head_fault.HeadReason.TheVariants as head
use Rattle.lan_schema.specs.declared.fault.SchemaFault.{SchemaFault}
use Rattle.lan_schema.specs.declared.fault.SchemaFault.TheVariants as schema
use Rattle.lan_manifest.specs.declared.fault.ManifestFault.{ManifestFault}
use Rattle.lan_manifest.specs.declared.fault.ManifestFault.TheVariants as manifest
use Rattle.lan_read.specs.declared.read_fault.Reason.{Reason}
use Rattle.lan_read.specs.declared.read_fault.Reason.TheVariants as reason

-- messages that can't be read
abbrev pub wire_code : WireKind → List ℕ
wire_code wire.Cut = codes "wire-cut"
wire_code wire.TooLong = codes "wire-long"
wire_code wire.BadType = codes "wire-type"
wire_code wire.BadNumber = codes "wire-number"
wire_code (wire.WrongType number) = codes "wire-kind " ++ decimal number
wire_code (wire.Twice number) = codes "wire-twice " ++ decimal number
wire_code (wire.Range number) = codes "wire-range " ++ decimal number
wire_code (wire.NotText number) = codes "wire-text " ++ decimal number
wire_code (wire.Refused number) = codes "wire-refused " ++ decimal number

-- messages that stand for no fields
abbrev pub schema_code : SchemaFault → List ℕ
schema_code (schema.Wire fault) = wire_code fault.kind
schema_code schema.Empty = codes "schema-empty"
schema_code (schema.BadId id) = codes "schema-id " ++ signed_decimal id
schema_code (schema.SameId id) = codes "schema-same-id " ++ signed_decimal id
schema_code (schema.BadParent id) = codes "schema-parent " ++ signed_decimal id
schema_code (schema.NoName id) = codes "schema-no-name " ++ signed_decimal id
schema_code (schema.SameName id) = codes "schema-same-name " ++ signed_decimal id
schema_code (schema.UnknownType id kind) = codes "schema-type " ++ (signed_decimal id ++ (codes " " ++ quoted kind))
schema_code (schema.Children id) = codes "schema-children " ++ signed_decimal id
schema_code (schema.TooDeep id) = codes "schema-deep " ++ signed_decimal id
schema_code schema.TooManyLeaves = codes "schema-leaves"
schema_code schema.Memory = codes "memory"

-- an object that stands for no manifest
abbrev pub manifest_code : ManifestFault → List ℕ
manifest_code manifest.TooShort = codes "manifest-short"
manifest_code manifest.Magic = codes "manifest-magic"
manifest_code manifest.Region = codes "manifest-region"
manifest_code (manifest.Wire fault) = wire_code fault.kind
manifest_code (manifest.Schema fault) = schema_code fault
manifest_code (manifest.VersionDiffers named stated) = codes "manifest-version " ++ (decimal named ++ (codes " " ++ decimal stated))
manifest_code (manifest.UnknownFlag flags) = codes "manifest-flags " ++ decimal flags
manifest_code manifest.Fragments = codes "manifest-fragments"
manifest_code (manifest.FragmentId id) = codes "manifest-fragment-id " ++ decimal id
manifest_code (manifest.RowIds id) = codes "manifest-row-ids " ++ decimal id
manifest_code (manifest.Rows id) = codes "manifest-rows " ++ decimal id
manifest_code (manifest.Path id) = codes "manifest-path " ++ decimal id
manifest_code (manifest.Lists id) = codes "manifest-lists " ++ decimal id
manifest_code (manifest.FileVersion id) = codes "manifest-file-version " ++ decimal id
manifest_code (manifest.DeletionType kind) = codes "manifest-deletion-type " ++ decimal kind
manifest_code (manifest.FieldTwice id) = codes "manifest-field-twice " ++ decimal id
manifest_code (manifest.PartField id) = codes "manifest-part-field " ++ decimal id
manifest_code (manifest.Absent id) = codes "manifest-absent " ++ decimal id
manifest_code manifest.Memory = codes "memory"

abbrev pub message_name : Message → List ℕ
message_name message.ColumnMetadata = codes "ColumnMetadata"
message_name message.Page = codes "Page"
message_name message.Encoding = codes "Encoding"
message_name message.DirectEncoding = codes "DirectEncoding"
message_name message.PageLayout = codes "PageLayout"
message_name message.MiniBlock = codes "MiniBlock"
message_name message.Constant = codes "Constant"
message_name message.FullZip = codes "FullZip"
message_name message.Values = codes "Values"
message_name message.Flat = codes "Flat"
message_name message.Variable = codes "Variable"
message_name message.ConstantValue = codes "ConstantValue"

-- metadata of no column
abbrev pub meta_code : MetaFault → List ℕ
meta_code (meta.Wire fault) = wire_code fault.kind
meta_code (meta.Unsupported message number place) = codes "meta-unsupported " ++ (message_name message ++ (codes " " ++ decimal number))
meta_code (meta.Missing message number) = codes "meta-missing " ++ (message_name message ++ (codes " " ++ decimal number))
meta_code (meta.Layers place) = codes "meta-layers"
meta_code (meta.Counts place) = codes "meta-counts"
meta_code (meta.Values place) = codes "meta-values"
meta_code (meta.Bits place) = codes "meta-bits"
meta_code (meta.Region place) = codes "meta-region"
meta_code meta.Memory = codes "memory"

-- an object that is no data file with the columns that are asked
abbrev pub head_code : HeadReason → List ℕ
head_code head.Missing = codes "missing"
head_code head.Size = codes "size"
head_code head.Short = codes "short"
head_code head.TooShort = codes "file-short"
head_code head.Magic = codes "file-magic"
head_code (head.Version major minor) = codes "file-version " ++ (decimal major ++ (codes " " ++ decimal minor))
head_code head.Region = codes "file-region"
head_code head.Descriptor = codes "file-descriptor"
head_code (head.Column number) = codes "file-column " ++ decimal number
head_code (head.Wire fault) = wire_code fault.kind
head_code (head.Meta fault) = meta_code fault
head_code (head.ColumnRows number) = codes "column-rows " ++ decimal number

-- a buffer that says where the rows lie, and doesn't
abbrev pub index_code : IndexFault → List ℕ
index_code index.Length = codes "index-length"
index_code index.Slots = codes "index-slots"
index_code index.Size = codes "index-size"
index_code index.Rows = codes "index-rows"
index_code (index.Lead chunk) = codes "index-lead " ++ decimal chunk
index_code (index.Falling offset) = codes "index-falling " ++ decimal offset
index_code index.End = codes "index-end"

-- bytes that are no slots of the rows
abbrev pub zip_code : ZipFault → List ℕ
zip_code (zip.Cut slot) = codes "zip-cut " ++ decimal slot
zip_code (zip.Level slot) = codes "zip-level " ++ decimal slot
zip_code zip.Rows = codes "zip-rows"
zip_code zip.Extra = codes "zip-extra"

-- an object that doesn't hold a page
abbrev pub page_code : PageReason → List ℕ
page_code page.Missing = codes "missing"
page_code page.Short = codes "short"
page_code (page.Index fault) = index_code fault
page_code (page.Content entry) = codes "index-content " ++ decimal entry
page_code (page.Zip fault) = zip_code fault
page_code page.Start = codes "page-start"
page_code page.Rows = codes "page-rows"

-- slots of no value
abbrev pub join_code : Join → List ℕ
join_code (join.Shape field) = codes "rows-shape " ++ decimal field
join_code (join.NotNull field) = codes "rows-null " ++ decimal field
join_code (join.NotText field) = codes "rows-text " ++ decimal field
join_code join.Memory = codes "memory"

abbrev pub code_of : Reason → List ℕ
code_of reason.Missing = codes "missing"
code_of reason.Size = codes "size"
code_of reason.Short = codes "short"
code_of (reason.Manifest fault) = manifest_code fault
code_of (reason.File fault) = head_code fault
code_of (reason.Rows stated physical) = codes "file-rows " ++ (decimal stated ++ (codes " " ++ decimal physical))
code_of (reason.Page fault) = page_code fault
code_of (reason.Join fault) = join_code fault
