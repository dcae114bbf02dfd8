-- What a file in the bytes that spell it stands for.
use Rattle.pos_dir.specs.declared.file.File.{File}
use Rattle.pos_dir.specs.declared.files.FileText.{FileText}

-- the file
abbrev pub file_of : FileText → File
file_of text = record { name = text.name.now; bytes = text.bytes.now }
