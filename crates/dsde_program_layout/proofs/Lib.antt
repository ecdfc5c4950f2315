mod Infos
mod ItemLays
mod Lays
mod ModelLays
mod PieceLays
mod Seams
mod StatementLays
mod Tops
